-- A text that has what is made of another's tokens is read as that other is.
--   Rule A             reads an A of a text, from a place on
--   Change             what is made of tokens
--   Kept o a ts w      the outcome o is a, and from its place on the text w has the tokens ts
--   Carries F f g G    what the rule f reads of a text, g reads of every text that has F of its tokens from there on; where that is a, the second
--                      has G a of the first one's tokens behind it
--   Extends z f        what f reads of a text it reads of every text that has its tokens from there on, and then z
--   Was f a            f read a somewhere
--   ok_carries, no_carries             a rule that reads nothing; is-carries, not-carries, by a test that holds or that fails
--   then_carries                       one rule after the other
--   number_carries, within_carries     a number
--   within_extends, no_less_extends    the same, with more behind it
--   kind_extends, row-, coefficient-, term-, terms-, line-, lines-   the parts of the section of rows
--   row_section_extends                the section
-- Assumes nothing.
use mathlib.Core.Path.{◌≡◌, refl, ◌∙◌, ap}
use mathlib.Core.Bool.{Bool, true, false, cond}
use mathlib.Core.List.{List, [], ◌∷◌, ◌++◌}
use Prim.Native.Nat.{ℕ, zero, suc, ◌+◌}
use lib.Dec.{ltb}
use lib.IntN.{ℤ, pos, nat_abs, neg_ℤ}
use lib.ListN.{drop}
use lib.Signed.{le_z}
use Rattle.whole.specs.Tests.{is_zero, in_range}
use Rattle.std.proofs.Common.{Option, Some, None, Ok, Err}
use Rattle.text.specs.Tokens.{Token, tokens}
use Rattle.text.specs.Positions.{next_at}
use Rattle.text.proofs.Scanning.{tokens_found, found_token}
use Rattle.problem.specs.Limits.{max_coefficient, max_right}
use Rattle.problem.specs.Kinds.{slack_count}
use Rattle.problem.specs.declared.Refusal.{Refusal}
use Rattle.problem.specs.declared.Refusal.TheVariants.{Size, Coefficient, Term as WrongTerm}
use Rattle.sections.specs.Rules.{Outcome, then, on_number, number, within, no_less}
use Rattle.sections.specs.Sections.{deck_columns, deck_rows, row_of, kind_of, kind, least_number, row, coefficient, term, terms, Line}
use Rattle.sections.specs.Sections.{line, lines, row_section}
use Rattle.sections.specs.declared.Term.{Term}
use Rattle.sections.proofs.Numbers.{same_ok, same_end, ok_not_no, Then, then_ok}

abbrev pub Rule : Type 0 → Type 0
Rule A = List ℕ → ℕ → Outcome A

abbrev pub Change : Type 0
Change = List Token → List Token

pub record Kept {A : Type 0} (o : Outcome A) (a : A) (ts : List Token) (w : List ℕ) : Type 0 where
  pub end : ℕ
  pub read : o ≡ Ok (a, end)
  pub rest : tokens (drop end w) ≡ ts

pub record Carries {A : Type 0} (F : Change) (f g : Rule A) (G : A → Change) : Type 0 where
  pub kept : (s w : List ℕ) (a : A) (at p e : ℕ) → tokens (drop p w) ≡ F (tokens (drop at s)) → f s at ≡ Ok (a, e)
      → Kept (g w p) a (G a (tokens (drop e s))) w

abbrev pub Extends : {A : Type 0} → List Token → Rule A → Type 0
Extends z f = Carries (λ ts. ts ++ z) f f (λ a ts. ts ++ z)

pub record Was {A : Type 0} (f : Rule A) (a : A) : Type 0 where
  pub text : List ℕ
  pub at : ℕ
  pub end : ℕ
  pub read : f text at ≡ Ok (a, end)

-- ---- what reads nothing
pub ok_carries : {A : Type 0} {G : A → Change} (a : A) → Carries (G a) (λ s at. Ok (a, at)) (λ s at. Ok (a, at)) G
ok_carries {G = G} a = record {
  kept = λ s w b at p e g h.
      let q : at ≡ e = same_end h in
      let r : a ≡ b = same_ok h in
      record { end = p; read = ap (λ x. Ok (x, p)) r; rest = g ∙ (λ i. G (r i) (tokens (drop (q i) s))) };
}

no_carries : {A : Type 0} {F : Change} {G : A → Change} (why : Refusal) → Carries F (λ s at. Err why) (λ s at. Err why) G
no_carries why = record { kept = λ s w b at p e g h. absurd (ok_not_no h) }

is_carries : {A : Type 0} {G : A → Change} (t : Bool) (a : A) (why : Refusal)
    → Carries (G a) (λ s at. cond t (Ok (a, at)) (Err why)) (λ s at. cond t (Ok (a, at)) (Err why)) G
is_carries true a why = ok_carries a
is_carries false a why = no_carries why

pub not_carries : {A : Type 0} {G : A → Change} (t : Bool) (a : A) (why : Refusal)
    → Carries (G a) (λ s at. cond t (Err why) (Ok (a, at))) (λ s at. cond t (Err why) (Ok (a, at))) G
not_carries true a why = no_carries why
not_carries false a why = ok_carries a

-- ---- one after the other
pub then_carries : {A B : Type 0} {F : Change} {f g : Rule A} {G : A → Change} {H : B → Change} {f' g' : A → Rule B}
    → Carries F f g G → ((a : A) → Was f a → Carries (G a) (f' a) (g' a) H)
    → Carries F (λ s at. then (f s at) (λ a p. f' a s p)) (λ s at. then (g s at) (λ a p. g' a s p)) H
then_carries {f = f} {g = g} {f' = f'} {g' = g'} x y = record {
  kept = λ s w b at p e k h.
      let t : Then (f s at) (λ a q. f' a s q) b e = then_ok (f s at) (λ a q. f' a s q) b e h in
      let was : Was f t.what = record { text = s; at = at; end = t.at; read = t.first } in
      let u = x.kept s w t.what at p t.at k t.first in
      let v = (y t.what was).kept s w b t.at u.end e u.rest t.second in
      record { end = v.end; read = ap (λ o. then o (λ a q. g' a w q)) u.read ∙ v.read; rest = v.rest };
}

-- ---- a number
module _ (F : Change) (G : ℤ → Change) (is : (v : ℤ) (ts : List Token) → F (Some v ∷ ts) ≡ Some v ∷ G v ts) where
  number_carries : Carries F number number G
  number_carries = record { kept = λ s w a at p e g h. kept s w a at p e g (next_at s at) refl h }
    where
      kept : (s w : List ℕ) (a : ℤ) (at p e : ℕ) → tokens (drop p w) ≡ F (tokens (drop at s)) → (n : Option (Token × ℕ)) → next_at s at ≡ n
          → on_number n ≡ Ok (a, e)
          → Kept (number w p) a (G a (tokens (drop e s))) w
      kept s w a at p e g (Some (Some v, q)) k h =
          let r : q ≡ e = same_end h in
          let x : v ≡ a = same_ok h in
          let m = found_token w p (Some v) (G v (tokens (drop q s))) (g ∙ ap F (tokens_found s at (Some v) q k) ∙ is v (tokens (drop q s))) in
          record {
            end = m.end;
            read = ap on_number m.found ∙ ap (λ (y : ℤ). Ok (y, m.end)) x;
            rest = m.rest ∙ (λ i. G (x i) (tokens (drop (r i) s)));
          }
      kept s w a at p e g (Some (None, q)) k h = absurd (ok_not_no h)
      kept s w a at p e g None k h = absurd (ok_not_no h)

  pub within_carries : (lo hi : ℤ) (why : Refusal) → Carries F (λ s. within s lo hi why) (λ s. within s lo hi why) G
  within_carries lo hi why = then_carries number_carries (λ v _. is_carries (in_range lo hi v) v why)

-- ---- with more behind it
module _ (z : List Token) where
  pub within_extends : (lo hi : ℤ) (why : Refusal) → Extends z (λ s. within s lo hi why)
  within_extends = within_carries (λ ts. ts ++ z) (λ v ts. ts ++ z) (λ v ts. refl)

  pub no_less_extends : (lo : ℤ) (why : Refusal) → Extends z (λ s. no_less s lo why)
  no_less_extends lo why =
      then_carries (number_carries (λ ts. ts ++ z) (λ v ts. ts ++ z) (λ v ts. refl)) (λ v _. is_carries (le_z lo v) v why)

  -- ---- the section of rows
  kind_extends : (columns : ℕ) → Extends z (λ s. kind s columns)
  kind_extends columns =
      then_carries (within_extends (pos 0) (pos 3) WrongTerm) (λ k _.
      not_carries (ltb deck_columns (columns + slack_count (kind_of (nat_abs k)))) (kind_of (nat_abs k)) WrongTerm)

  row_extends : (columns : ℕ) → Extends z (λ s. row s columns)
  row_extends columns =
      then_carries (kind_extends columns) (λ k _.
      then_carries (within_extends (least_number k) (pos max_right) Coefficient) (λ b _.
      ok_carries (row_of k b)))

  coefficient_extends : Extends z coefficient
  coefficient_extends =
      then_carries (within_extends (neg_ℤ (pos max_coefficient)) (pos max_coefficient) Coefficient) (λ v _.
      not_carries (is_zero v) v WrongTerm)

  term_extends : (last count : ℕ) → Extends z (λ s. term s last count)
  term_extends last count =
      then_carries (within_extends (pos (last + 1)) (pos count) WrongTerm) (λ j _.
      then_carries coefficient_extends (λ c _.
      ok_carries (record { index = nat_abs j; coefficient = c })))

  terms_extend : (k last count : ℕ) (done : List Term) → Extends z (λ s. terms s k last count done)
  unfolding terms
  terms_extend zero last count done = ok_carries done
  terms_extend (suc k) last count done =
      then_carries (term_extends last count) (λ t _. terms_extend k t.index count (done ++ (t ∷ [])))

  line_extends : (count columns : ℕ) → Extends z (λ s. line s count columns)
  line_extends count columns =
      then_carries (row_extends columns) (λ r _.
      then_carries (within_extends (pos 0) (pos count) WrongTerm) (λ k _.
      then_carries (terms_extend (nat_abs k) 0 count []) (λ us _.
      ok_carries (record { row = r; terms = us }))))

  lines_extend : (k count columns : ℕ) (done : List Line) → Extends z (λ s. lines s k count columns done)
  unfolding lines
  lines_extend zero count columns done = ok_carries done
  lines_extend (suc k) count columns done =
      then_carries (line_extends count columns) (λ l _. lines_extend k count (columns + slack_count l.row.kind) (done ++ (l ∷ [])))

  pub row_section_extends : (count : ℕ) → Extends z (λ s. row_section s count)
  row_section_extends count =
      then_carries (within_extends (pos 0) (pos deck_rows) Size) (λ m _. lines_extend (nat_abs m) count count [])
