-- The theorems of specs/Theorems, proved.
-- Assumes nothing.
use mathlib.Core.Path.{◌≡◌, sym, ◌∙◌, ap, subst}
use mathlib.Core.Logic.Iff
use mathlib.Core.List.{List, [], ◌++◌}
use Prim.Native.Nat.{ℕ, ◌+◌}
use native.Mathlib.Omega.{arith}
use lib.IntN.{ℤ, negsuc}
use lib.ListN.{length}
use Rattle.whole.specs.Lists.{zeros}
use Rattle.whole.specs.Quotient.{nearest_quotient}
use Rattle.lattice.specs.Rows.{minus, neg}
use Rattle.lattice.proofs.RowLaws.{length_plus, length_zeros}
use Rattle.lattice.specs.Sums.{Satisfies}
use Rattle.lattice.specs.Span.{All, Span, Same}
use Rattle.lattice.proofs.Span.{steps_count, steps_length}
use Rattle.lattice.proofs.Hermite as Forms
use Rattle.lattice.specs.Hermite.{Echelon, width, rows, Led, Rising}
use Rattle.lattice.proofs.Hermite.{past, rows_led, rows_rising, past_width, past_hermite}
use Rattle.lattice.specs.Coset.{Describes}
use Rattle.tableau.specs.Table.{tableau}
use Rattle.tableau.specs.Elimination.{eliminate_by, eliminate}
use Rattle.tableau.specs.RightSide.{right_side, form, solve}
use Rattle.tableau.specs.Generators.{Reaches, Tells}
use Rattle.tableau.proofs.GatherLaws.{nearest_shrinks, gather_alone, gather_fuel}
use Rattle.tableau.proofs.RoundLaws as Counts
use Rattle.tableau.proofs.FormLaws.{eliminated, pass_columns_steps}
use Rattle.tableau.proofs.TableLaws.{tableau_count, tableau_length, tableau_independent, tableau_generators, tableau_reaches}
use Rattle.tableau.proofs.FoundLaws.{tells_same, tells_none, tells_unique}
use Rattle.tableau.proofs.RightLaws.{basis_past, right_tells}
use Rattle.tableau.specs.Theorems.{Eliminated, GatheringEnds, EliminationForm, FormUnique, ReducedUnique, EliminationUnique}
use Rattle.tableau.specs.Theorems.{ReachedTells, ReachedSame, ProblemForm, ProblemCount, ProblemWide, ProblemRising, ProblemBasis, BasisRising}
use Rattle.tableau.specs.Theorems.{SolveTells, SolveSome, SolveNone, SolveSame}
use Rattle.tableau.specs.Theorems.{ColumnRounds, EliminationRounds, FormRounds, QuotientUnchanged}

-- ---- elimination
pub gathering_ends : GatheringEnds
gathering_ends n c b B j p h f l =
    (gather_alone nearest_shrinks h p j p (omega arith), gather_fuel nearest_shrinks h f p j p j p l (omega arith))

pub elimination_form : EliminationForm
elimination_form n T l i = eliminated nearest_shrinks n T l i

-- ---- uniqueness
pub form_unique : FormUnique
form_unique = Forms.hermite_unique

pub reduced_unique : ReducedUnique
reduced_unique = Forms.reduced_unique

-- two tables of one span have one form
pub forms_same : {n : ℕ} {T U F G : List (List ℤ)} → Eliminated n T F → Eliminated n U G → Same n T U → F ≡ G
forms_same {n} {T} {U} {F} {G} t u s =
    let w : Same n F G = record { both = λ v l. Iff.trans (Iff.symm (t.keeps.both v l)) (Iff.trans (s.both v l) (u.keeps.both v l)) } in
    t.is
    ∙ ap rows (form_unique t.form u.form (t.wide ∙ sym u.wide) t.hermite u.hermite (rw (t.wide, ← t.is, ← u.is) w))
    ∙ sym u.is

pub elimination_unique : EliminationUnique
elimination_unique n T U lt it lu iu =
    let t : Eliminated n T (eliminate n T).table = elimination_form n T lt it in
    let u : Eliminated n U (eliminate n U).table = elimination_form n U lu iu in (
      forms_same t u,
      (λ e. record {
        both = λ v l. Iff.trans (t.keeps.both v l) (Iff.trans (rw e Iff.rfl) (Iff.symm (u.keeps.both v l)));
      }),
    )

-- ---- generator rows, of any problem or none
pub reached_tells : ReachedTells
reached_tells n m T over v g =
    let t : Eliminated (m + n) T (eliminate (m + n) T).table = elimination_form (m + n) T g.wide g.independent in
    let F : List (List ℤ) = (eliminate (m + n) T).table in
    tells_same n (λ (x : List ℤ). Span F (minus (zeros m ++ x) v)) (Reaches n m T v) (right_side m F over v).found
    (λ x l.
    let k : length (minus (zeros m ++ x) v) ≡ m + n = length_plus (negsuc 0) v (zeros m ++ x) ∙ length_zeros m x ∙ ap (λ (i : ℕ). m + i) l in
    ((λ s. record { long = l; spans = (t.keeps.both _ k).1 s }), (λ r. (t.keeps.both _ k).0 r.spans)))
    (rw t.is (right_tells n m t.form over v t.wide t.hermite g.long))

pub reached_same : ReachedSame
reached_same n m m' T T' over over' v v' g g' =
    tells_unique n (Reaches n m T v) (Reaches n m' T' v') _ _ (λ x r. r.long) (λ x r. r.long)
    (reached_tells n m T over v g) (reached_tells n m' T' over' v' g')

pub problem_form : ProblemForm
unfolding form
problem_form n A = elimination_form (length A + n) (tableau n A) (tableau_length n A) (tableau_independent n A)

pub problem_count : ProblemCount
unfolding form eliminate_by
problem_count n A = sym (steps_count (pass_columns_steps nearest_quotient (length A + n) 0 [] (tableau n A))) ∙ tableau_count n A

pub problem_wide : ProblemWide
unfolding form eliminate_by
problem_wide n A = steps_length (length A + n) (pass_columns_steps nearest_quotient (length A + n) 0 [] (tableau n A)) (tableau_length n A)

pub problem_rising : ProblemRising
unfolding form
problem_rising n A =
    let t : Eliminated (length A + n) (tableau n A) (form n A).table = problem_form n A in
    subst (Rising 0) (sym t.is) (rows_rising t.form t.hermite)

pub problem_basis : ProblemBasis
unfolding form
problem_basis n A =
    let t : Eliminated (length A + n) (tableau n A) (form n A).table = problem_form n A in
    let K : Echelon = past (length A) t.form in
    let w : width K ≡ n = past_width (length A) n t.form t.wide in
    rw (t.is, basis_past (length A) t.form t.hermite)
    (subst (λ (k : ℕ). All (Led k) (rows K)) w (rows_led K (past_hermite (length A) t.form t.hermite)))

pub basis_rising : BasisRising
unfolding form
basis_rising n A =
    let t : Eliminated (length A + n) (tableau n A) (form n A).table = problem_form n A in
    rw (t.is, basis_past (length A) t.form t.hermite)
    (rows_rising (past (length A) t.form) (past_hermite (length A) t.form t.hermite))

-- ---- a problem
pub solve_tells : SolveTells
unfolding solve form
solve_tells n A b z =
    tells_same n (Reaches n (length A) (tableau n A) (neg b ++ zeros n)) (Satisfies n A b) (solve n A b).found (λ x l. tableau_reaches n A b z x)
    (reached_tells n (length A) (tableau n A) (form n A).over (neg b ++ zeros n) (tableau_generators n A b z))

pub solve_some : SolveSome
solve_some n A b z start N e x l =
    let d : Describes n (Satisfies n A b) start N = subst (Tells n (Satisfies n A b)) e (solve_tells n A b z) in
    d.set x l

pub solve_none : SolveNone
solve_none n A b z = tells_none n (Satisfies n A b) (solve n A b).found (λ x s. s.wide) (solve_tells n A b z)

pub solve_same : SolveSame
solve_same n A A' b b' z z' =
    tells_unique n (Satisfies n A b) (Satisfies n A' b') (solve n A b).found (solve n A' b').found (λ x s. s.wide) (λ x s. s.wide)
    (solve_tells n A b z) (solve_tells n A' b' z')

-- ---- the rounds of elimination
pub column_rounds_lem : ColumnRounds
column_rounds_lem = Counts.column_rounds_lem

pub elimination_rounds : EliminationRounds
elimination_rounds = Counts.eliminate_rounds

pub form_rounds_lem : FormRounds
form_rounds_lem = Counts.form_rounds_lem

pub quotient_unchanged : QuotientUnchanged
quotient_unchanged q q' S S' n T l i = forms_same (eliminated S n T l i) (eliminated S' n T l i) (record { both = λ v h. Iff.rfl })
