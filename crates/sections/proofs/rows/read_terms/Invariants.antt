-- What holds at each turn of `sections::rows::read_terms`: what is left to read, after the terms done, is what was to be read, and the line holds
-- the terms done. Assumes nothing.
use Rattle.std.proofs.Common.{◌≡◌, ℕ, ◌-◌, ◌≤◌, ℤ, List, []}
use Rattle.sections.specs.declared.Term.{Term}
use Rattle.sections.specs.Rules.{Outcome}
use Rattle.sections.specs.Sections.{terms}
use Rattle.sections.specs.StatedColumns.{placed}
use Rattle.sections.proofs.rows.read_terms.Given as goal

pub record Sofar (s : List ℕ) (o : Outcome (List Term)) (k count : ℕ) (line₀ : List ℤ) (i p last : ℕ) (u : List ℤ) : Type 0 where
  pub known : last ≤ count
  pub done : List Term
  pub rest : terms s (k - i) last count done p ≡ o
  pub line : u ≡ placed done line₀

abbrev pub invariant-loop : goal.invariant-loop
invariant-loop l = Sofar l.s (terms l.s l.k 0 l.count [] l.fn.at) l.k l.count l.initial.line l.counter l.at l.last l.line
