-- Laws of passing the columns of a table: it is made of elementary row steps, and leaves a Hermite form.
--   pass_columns_steps    the steps of d columns
--   skips c H             c columns of zeros before H
--   reduced_residue       to reduce a row above by the pivot's row as it is found, and then by the later rows, is to reduce it by the form
--   Formed d c A B        the last d of c + d columns leave a Hermite form of d columns: the rows A above reduced by it, its rows, and rows of zeros
--   pass_columns_formed   they do, where the rows B from row k on have only zeros in the first c columns
--   eliminated            so elimination leaves the table T in its Hermite form, where T's rows are independent
-- Assumes nothing.
use mathlib.Core.Path.{◌≡◌, refl, sym, ◌∙◌, ap, ap₂, subst}
use mathlib.Core.List.{List, [], ◌∷◌, ◌++◌, map, append_assoc}
use Prim.Native.Nat.{ℕ, zero, suc, ◌+◌}
use native.Mathlib.Omega.{arith}
use native.Mathlib.Nat.{zero-add}
use lib.ListN.{length}
use lib.IntN.{ℤ, pos, neg_ℤ, ◌+ℤ◌, ◌*ℤ◌}
use Rattle.whole.specs.Lists.{entry, zeros}
use Rattle.whole.specs.Quotient.{floor_quotient}
use Rattle.whole.proofs.Integers.{add_none}
use Rattle.lattice.specs.Rows.{plus, Zero, ZeroTo}
use Rattle.lattice.proofs.RowLaws.{length_plus, ZeroTo_next, ZeroTo_all, ZeroTo_plus, ZeroTo_neg}
use Rattle.lattice.specs.Span.{All, Len, Independent, ◌~◌, same, ◌then◌, add}
use Rattle.lattice.proofs.Span.{all_map, all_both, all_append, front, back, unders}
use Rattle.lattice.proofs.Span.{steps_all, steps_length, steps_span, steps_independent, independent_nonzero}
use Rattle.lattice.specs.Hermite.{Echelon, done, skip, step, width, indent, rows, Hermite}
use Rattle.lattice.proofs.Coset.{residue, residue_length, residue_reduced, residue_coset, residue_equal, coset_turn, coset_sums}
use Rattle.tableau.specs.Elimination.{Left, reduced, each, Choice, none, at, choose, Gathered, gather_by}
use Rattle.tableau.specs.Elimination.{Passed, pass_column_by, pass_columns_by, eliminate_by}
use Rattle.tableau.specs.Gathering.{Alone, Shrinks}
use Rattle.tableau.proofs.GatherLaws.{each_steps, gather_steps, choose_stands, Stands, gather_alone}
use Rattle.tableau.specs.Theorems.{Eliminated}

-- ---- row steps
reduced_steps : (c : ℕ) (r s : List ℤ) (B : List (List ℤ)) → (r ∷ s ∷ B) ~ (r ∷ (reduced c r s).row ∷ B)
unfolding reduced
reduced_steps c r s B = add (neg_ℤ (floor_quotient (entry c s) (entry c r))) r s

module _ (quotient : ℤ → ℤ → ℤ) where
  pass_column_steps : (c : ℕ) (A B : List (List ℤ)) (z : Choice)
      → (A ++ B) ~ ((pass_column_by quotient c A B z).above ++ (pass_column_by quotient c A B z).below)
  unfolding pass_column_by
  pass_column_steps c A B none = same
  pass_column_steps c A [] (at j p) = same
  pass_column_steps c A (b ∷ B) (at j p) =
      let g : Gathered = gather_by quotient p c (at j p) b B in
      let A' : List (List ℤ) = (each (reduced c g.pivot) A).table in
      rw (append_assoc A' (g.pivot ∷ []) g.below)
      (unders A (gather_steps quotient p c (at j p) b B)
      then front A g.pivot g.below
      then each_steps g.pivot (reduced c g.pivot) (reduced_steps c g.pivot) A g.below
      then back A' g.pivot g.below)

  pub pass_columns_steps : (d c : ℕ) (A B : List (List ℤ)) → (A ++ B) ~ (pass_columns_by quotient d c A B).table
  unfolding pass_columns_by
  pass_columns_steps zero c A B = same
  pass_columns_steps (suc d) c A B =
      let x : Passed = pass_column_by quotient c A B (choose c B) in
      pass_column_steps c A B (choose c B) then pass_columns_steps d (suc c) x.above x.below

-- ---- columns of zeros in front
abbrev skips : ℕ → Echelon → Echelon
skips zero H = H
skips (suc c) H = skip (skips c H)

skips_skip : (c : ℕ) (H : Echelon) → skips c (skip H) ≡ skips (suc c) H
skips_skip zero H = refl
skips_skip (suc c) H = ap skip (skips_skip c H)

skips_step : (c : ℕ) (p : ℤ) (t : List ℤ) (H : Echelon) → rows (skips c (step p t H)) ≡ (zeros c ++ (p ∷ t)) ∷ rows (skips (suc c) H)
skips_step zero p t H = refl
skips_step (suc c) p t H = ap indent (skips_step c p t H)

skips_done : (c : ℕ) → rows (skips c done) ≡ []
skips_done zero = refl
skips_done (suc c) = ap indent (skips_done c)

residue_done : (c : ℕ) (v : List ℤ) → residue (skips c done) v ≡ v
residue_done zero v = refl
residue_done (suc c) [] = refl
residue_done (suc c) (x ∷ v) = ap (λ (r : List ℤ). x ∷ r) (residue_done c v)

residue_row : (c : ℕ) (p : ℤ) (t : List ℤ) (H : Echelon) → residue (skips (suc c) H) (zeros c ++ (p ∷ t)) ≡ zeros c ++ (p ∷ residue H t)
residue_row zero p t H = refl
residue_row (suc c) p t H = ap (λ (r : List ℤ). pos 0 ∷ r) (residue_row c p t H)

-- a row that has zeros in the first c columns
shape : (c d : ℕ) (r : List ℤ) → length r ≡ c + suc d → ZeroTo c r → (t : List ℤ) × (length t ≡ d) × (r ≡ zeros c ++ (entry c r ∷ t))
shape zero d [] l z = absurd (omega arith)
shape zero d (x ∷ r) l z = (r, omega arith, refl)
shape (suc c) d [] l z = absurd (omega arith)
shape (suc c) d (x ∷ r) l z =
    let i : (t : List ℤ) × (length t ≡ d) × (r ≡ zeros c ++ (entry c r ∷ t)) = shape c d r (omega arith) z.1 in
    (i.0, i.1, ap₂ ◌∷◌ z.0 i.2)

reduced_residue : (c : ℕ) (p : ℤ) (t : List ℤ) (H : Echelon) (a : List ℤ) → length a ≡ c + suc (width H) → length t ≡ width H → Hermite H
    → residue (skips (suc c) H) (reduced c (zeros c ++ (p ∷ t)) a).row ≡ residue (skips c (step p (residue H t) H)) a
unfolding plus reduced
reduced_residue zero p t H [] l e h = absurd (omega arith)
reduced_residue zero p t H (x ∷ a) l e h =
    let q : ℤ = neg_ℤ (floor_quotient x p) in
    let t' : List ℤ = residue H t in
    let lt : length t' ≡ length t = residue_length H t in
    ap (λ (r : List ℤ). (x +ℤ q *ℤ p) ∷ r)
    (residue_equal H (plus q t a) (plus q t' a) (length_plus q t a ∙ omega arith) (length_plus q t' a ∙ omega arith) h
    (coset_sums (rows H) q t t' a (omega arith) (coset_turn (rows H) t' t (omega arith) (residue_coset H t e))))
reduced_residue (suc c) p t H [] l e h = absurd (omega arith)
reduced_residue (suc c) p t H (y ∷ a) l e h =
    ap₂ ◌∷◌ (add_none (neg_ℤ (floor_quotient (entry c a) (entry c (zeros c ++ (p ∷ t))))) y (pos 0) refl)
    (reduced_residue c p t H a (omega arith) e h)

-- the rows above and the pivot's row, each by f
stack : (f k : List ℤ → List ℤ) (h : List ℤ → Left) (r : List ℤ) (X A : List (List ℤ)) → All (λ (a : List ℤ). f (h a).row ≡ k a) A
    → map f ((each h A).table ++ (r ∷ [])) ++ X ≡ map k A ++ (f r ∷ X)
unfolding each
stack f k h r X [] a = refl
stack f k h r X (s ∷ A) a = ap₂ ◌∷◌ a.0 (stack f k h r X A a.1)

-- ---- what the columns leave
module _ {quotient : ℤ → ℤ → ℤ} (S : Shrinks quotient) where
  record Formed (d c : ℕ) (A B : List (List ℤ)) : Type 0 where
    form : Echelon
    wide : width form ≡ d
    hermite : Hermite form
    rest : List (List ℤ)
    none_left : All Zero rest
    is : (pass_columns_by quotient d c A B).table ≡ map (residue (skips c form)) A ++ (rows (skips c form) ++ rest)

  formed_zero : (c : ℕ) (A B : List (List ℤ)) → All (Len (c + 0)) B → All (ZeroTo c) B → Formed 0 c A B
  unfolding pass_columns_by
  formed_zero c A B l z = record {
    form = done;
    wide = refl;
    hermite = tt;
    rest = B;
    none_left = all_both (Len (c + 0)) (ZeroTo c) Zero (λ r e y. ZeroTo_all c r (omega arith) y) B l z;
    is = sym (ap₂ (λ (X Y : List (List ℤ)). X ++ (Y ++ B)) (kept A) (skips_done c));
  }
    where
      kept : (A : List (List ℤ)) → map (residue (skips c done)) A ≡ A
      kept [] = refl
      kept (r ∷ A) = ap₂ ◌∷◌ (residue_done c r) (kept A)

  formed_skip : (d c : ℕ) (A B : List (List ℤ)) → choose c B ≡ none → Formed d (suc c) A B → Formed (suc d) c A B
  unfolding pass_columns_by pass_column_by
  formed_skip d c A B e i = record {
    form = skip i.form;
    wide = ap suc i.wide;
    hermite = i.hermite;
    rest = i.rest;
    none_left = i.none_left;
    is =
        ap (λ (z : Choice).
        (pass_columns_by quotient d (suc c) (pass_column_by quotient c A B z).above (pass_column_by quotient c A B z).below).table) e
        ∙ subst (λ (S : Echelon). (pass_columns_by quotient d (suc c) A B).table ≡ map (residue S) A ++ (rows S ++ i.rest))
        (sym (skips_skip c i.form)) i.is;
  }

  module _ (d c : ℕ) (A : List (List ℤ)) (b : List ℤ) (B : List (List ℤ)) (j p : ℕ) (e : choose c (b ∷ B) ≡ at j p)
      (la : All (Len (c + suc d)) A) (lb : All (Len (c + suc d)) (b ∷ B)) (z : All (ZeroTo c) (b ∷ B)) where
    abbrev g : Gathered
    g = gather_by quotient p c (at j p) b B

    g_length : All (Len (c + suc d)) (g.pivot ∷ g.below)
    g_length = steps_length (c + suc d) (gather_steps quotient p c (at j p) b B) lb

    g_zero : All (ZeroTo c) (g.pivot ∷ g.below)
    g_zero = steps_all (ZeroTo c) (ZeroTo_neg c) (ZeroTo_plus c) (gather_steps quotient p c (at j p) b B) z

    g_alone : Alone c g.pivot g.below
    g_alone = gather_alone S (record { within = omega arith; wide = lb; choice = e }) p j p (omega arith)

    next_zero : All (ZeroTo (suc c)) g.below
    next_zero = all_both (ZeroTo c) (λ (s : List ℤ). entry c s ≡ pos 0) (ZeroTo (suc c)) (ZeroTo_next c) g.below g_zero.1 g_alone.lower

    module _ (i : Formed d (suc c) (pass_column_by quotient c A (b ∷ B) (at j p)).above (pass_column_by quotient c A (b ∷ B) (at j p)).below) where
      abbrev q : ℤ
      q = entry c g.pivot

      abbrev K : Echelon
      K = i.form

      shaped : (t : List ℤ) × (length t ≡ d) × (g.pivot ≡ zeros c ++ (q ∷ t))
      shaped = shape c d g.pivot g_length.0 g_zero.0

      abbrev t : List ℤ
      t = shaped.0

      t_length : length t ≡ width K
      t_length = shaped.1 ∙ sym i.wide

      abbrev H : Echelon
      H = step q (residue K t) K

      -- the pivot's row, reduced by the later rows
      pivot_is : residue (skips (suc c) K) g.pivot ≡ zeros c ++ (q ∷ residue K t)
      pivot_is = ap (residue (skips (suc c) K)) shaped.2 ∙ residue_row c q t K

      -- the rows above it
      above_is : All (λ (a : List ℤ). residue (skips (suc c) K) (reduced c g.pivot a).row ≡ residue (skips c H) a) A
      above_is =
          all_map (Len (c + suc d)) _
          (λ a l.
          ap (λ (x : List ℤ). residue (skips (suc c) K) (reduced c x a).row) shaped.2
          ∙ reduced_residue c q t K a (omega (arith, l, i.wide)) t_length i.hermite) A la

      formed_step : Formed (suc d) c A (b ∷ B)
      unfolding pass_columns_by pass_column_by
      formed_step = record {
        form = H;
        wide = ap suc i.wide;
        hermite = (g_alone.lead, residue_length K t ∙ t_length, residue_reduced K t i.hermite, i.hermite);
        rest = i.rest;
        none_left = i.none_left;
        is =
            ap (λ (y : Choice).
            let x : Passed = pass_column_by quotient c A (b ∷ B) y in
            (pass_columns_by quotient d (suc c) x.above x.below).table) e
            ∙ i.is
            ∙ stack (residue (skips (suc c) K)) (residue (skips c H)) (reduced c g.pivot) g.pivot (rows (skips (suc c) K) ++ i.rest) A above_is
            ∙ ap (λ (X : List (List ℤ)). map (residue (skips c H)) A ++ (X ++ i.rest))
            (ap (λ (r : List ℤ). r ∷ rows (skips (suc c) K)) pivot_is ∙ sym (skips_step c q (residue K t) K));
      }

  pass_columns_formed : (d c : ℕ) (A B : List (List ℤ)) → All (Len (c + d)) (A ++ B) → All (ZeroTo c) B → Formed d c A B
  unfolding pass_column_by
  pass_columns_formed zero c A B l z = formed_zero c A B ((all_append (Len (c + 0)) A B).0 l).1 z
  pass_columns_formed (suc d) c A B l z = go B (choose c B) refl (choose_stands c B) l z (pass_columns_formed d (suc c))
    where
      on : (T : List (List ℤ)) → All (Len (c + suc d)) T → All (Len (suc c + d)) T
      on T a = subst (λ (k : ℕ). All (Len k) T) (omega arith) a

      go : (B : List (List ℤ)) (y : Choice) → choose c B ≡ y → Stands c B y → All (Len (c + suc d)) (A ++ B) → All (ZeroTo c) B
          → ((A B : List (List ℤ)) → All (Len (suc c + d)) (A ++ B) → All (ZeroTo (suc c)) B → Formed d (suc c) A B)
          → Formed (suc d) c A B
      go B none e s l z ih =
          formed_skip d c A B e
          (ih A B (on (A ++ B) l) (all_both (ZeroTo c) (λ (r : List ℤ). entry c r ≡ pos 0) (ZeroTo (suc c)) (ZeroTo_next c) B z s))
      go [] (at j p) e s l z ih = absurd (omega (arith, s.1))
      go (b ∷ B) (at j p) e s l z ih =
          let x : Passed = pass_column_by quotient c A (b ∷ B) (at j p) in
          let w : All (Len (c + suc d)) A × All (Len (c + suc d)) (b ∷ B) = (all_append (Len (c + suc d)) A (b ∷ B)).0 l in
          formed_step d c A b B j p e w.0 w.1 z
          (ih x.above x.below (on (x.above ++ x.below) (steps_length (c + suc d) (pass_column_steps quotient c A (b ∷ B) (at j p)) l))
          (next_zero d c A b B j p e w.0 w.1 z))

  pub eliminated : (n : ℕ) (T : List (List ℤ)) → All (Len n) T → Independent n T → Eliminated n T (eliminate_by quotient n T).table
  unfolding eliminate_by
  eliminated n T l i =
      let f : Formed n 0 [] T = pass_columns_formed n 0 [] T (rw (zero-add n) l) (all_map (Len n) (ZeroTo 0) (λ r e. tt) T l) in
      let s : T ~ (eliminate_by quotient n T).table = pass_columns_steps quotient n 0 [] T in
      let e : (eliminate_by quotient n T).table ≡ rows f.form ++ f.rest = f.is in
      let s' : T ~ (rows f.form ++ f.rest) = rw e at s in
      record {
        form = f.form;
        wide = f.wide;
        hermite = f.hermite;
        is = e ∙ independent_nonzero n (rows f.form) f.rest (steps_length n s' l) (steps_independent n s' l i) f.none_left;
        keeps = record { both = steps_span n s l };
      }
