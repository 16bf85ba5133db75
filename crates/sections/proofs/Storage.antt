-- Laws of what is stored: tables filled from the front, a row's coefficients, the y's of rows.
--   map_two, length_snoc, length_blank, rights_long, rows_long   lists
--   padded_none, padded_written   a blank table that is filled from the front
--   length_slack, slacks_two, -more            the y's of rows: end to end, and one more row
--   placed_none, -two, -more, length_placed, length_row   a row's coefficients
--   rows_two, -more, length_rows, few_cells    rows end to end, one more, and how many numbers they have within the limits
--   set_more, stored_none, stored_more         one more behind what is stored; the tables of no row, and of one more
--   wiped, left_found, left_refused            what a section answered and left: a refused one that is wiped, what was read, or why not
-- Assumes nothing.
use mathlib.Core.Path.{◌≡◌, refl, sym, ap, ◌∙◌}
use mathlib.Core.List.{List, [], ◌∷◌, ◌++◌, map, append-nil, append_assoc}
use Prim.Native.Nat.{ℕ, ◌+◌, ◌-◌, ◌*◌, ◌≤◌, ◌<◌}
use native.Mathlib.Nat.{mul-le-mul}
use native.Mathlib.Omega.{arith}
use lib.IntN.{ℤ, pos}
use lib.ListN.{length, take, drop, set, replicate, length-append, length-map, length-replicate, length-set}
use lib.Seq.{take_at, drop_at, drop-drop}
use Rattle.std.proofs.lemmas.List.{drop-replicate}
use Rattle.whole.specs.Lists.{zeros}
use Rattle.text.specs.Overwriting.{overwritten}
use Rattle.problem.specs.Kinds.{Slack, none, slack, slack_of, slack_count}
use Rattle.problem.specs.Kinds as kinds
use Rattle.sections.specs.Sections.{deck_columns, deck_rows, coefficient_count, Line}
use Rattle.sections.specs.StatedColumns.{right_of, placed, with_slack, slack_column, slack_columns, coefficient_row, coefficient_rows}
use Rattle.sections.specs.StatedColumns.{padded_by, blank, blank_line, blank_tables}
use Rattle.std.proofs.Common.{Result, Ok, Err, true, is_err}
use Rattle.std.proofs.lemmas.Bool.{false≢true}
use Rattle.problem.specs.declared.Refusal.{Refusal}
use Rattle.sections.specs.Rules.{Outcome}
use Rattle.sections.specs.SectionsRead.{WasRead, with_row, with_rows, left, LeftOpen}
use Rattle.sections.specs.declared.Cursor.{Cursor}
use Rattle.sections.specs.declared.Tables.{Tables}
use Rattle.sections.specs.declared.Interval.{Interval}
use Rattle.sections.specs.declared.Term.{Term}
use Rattle.text.proofs.Copying.{length_written, written_none, written_one, written_then}

-- ---- lists
pub map_two : {A B : Type 0} (f : A → B) (u v : List A) → map f (u ++ v) ≡ map f u ++ map f v
map_two f [] v = refl
map_two f (x ∷ u) v = ap (λ (t : List _). f x ∷ t) (map_two f u v)

pub length_snoc : {A : Type 0} (done : List A) (a : A) (i : ℕ) → length done ≡ i → length (done ++ (a ∷ [])) ≡ i + 1
length_snoc done a i h = rw (length-append done (a ∷ [])) (omega arith)

pub length_blank : (n : ℕ) → length (blank n) ≡ n
unfolding blank
length_blank n = length-replicate n (pos 0)

pub rights_long : length blank_tables.rights ≡ deck_rows
unfolding blank_tables
rights_long = refl

pub rows_long : length blank_tables.rows ≡ deck_rows
unfolding blank_tables
rows_long = refl

-- ---- a blank table that is filled from the front
module _ {A : Type 0} (z : A) where
  pub padded_none : (size : ℕ) → replicate size z ≡ padded_by z size []
  padded_none size = let e : size - 0 ≡ size = omega arith in rw e

  pub padded_written : (size c : ℕ) (u w : List A) → length u ≡ c → c + length w ≤ size
      → overwritten (padded_by z size u) c w ≡ padded_by z size (u ++ w)
  padded_written size c u w e h =
      let r : List A = replicate (size - length u) z in
      let t : take c (padded_by z size u) ≡ u = take_at u r c e in
      let d : drop (c + length w) (padded_by z size u) ≡ replicate (size - length (u ++ w)) z =
      sym (drop-drop (length w) c (padded_by z size u)) ∙ ap (drop (length w)) (drop_at u r c e) ∙ drop-replicate (length w) (size - length u) z ∙
      ap (λ (j : ℕ). replicate j z) two in
      rw (t, d) (sym (append_assoc u w (replicate (size - length (u ++ w)) z)))
    where
      two : size - length u - length w ≡ size - length (u ++ w)
      two = rw (length-append u w) (omega arith)

  -- one more
  pub padded_more : (size : ℕ) (done : List A) (i : ℕ) (x : A) (k : List A) → length done ≡ i → i < size → k ≡ padded_by z size done
      → set k i x ≡ padded_by z size (done ++ (x ∷ []))
  padded_more size done i x k e h f =
      let l : length (padded_by z size done) ≡ size =
      length-append done (replicate (size - length done) z) ∙ (rw (length-replicate (size - length done) z) (omega arith)) in
      ap (λ (u : List A). set u i x) f ∙ written_one (padded_by z size done) i x (omega arith) ∙ padded_written size i done (x ∷ []) e (omega arith)

-- ---- the y's of rows
pub length_slack : (y : Slack) → length (slack_column y) ≡ kinds.slack_columns y
length_slack none = refl
length_slack (slack k lo) = refl

pub slacks_two : (ls ms : List Line) → slack_columns (ls ++ ms) ≡ slack_columns ls ++ slack_columns ms
unfolding slack_columns
slacks_two [] ms = refl
slacks_two (l ∷ ls) ms =
    let y = slack_column (slack_of l.row.kind) in
    ap (λ (x : List Interval). y ++ x) (slacks_two ls ms) ∙ sym (append_assoc y (slack_columns ls) (slack_columns ms))

pub slacks_more : (done : List Line) (l : Line) → slack_columns (done ++ (l ∷ [])) ≡ slack_columns done ++ slack_column (slack_of l.row.kind)
unfolding slack_columns
slacks_more done l = slacks_two done (l ∷ []) ∙ ap (λ (x : List Interval). slack_columns done ++ x) (append-nil (slack_column (slack_of l.row.kind)))

-- ---- a row's coefficients
pub placed_none : (u : List ℤ) → u ≡ placed [] u
unfolding placed
placed_none u = refl

pub placed_two : (a b : List Term) (u : List ℤ) → placed (a ++ b) u ≡ placed b (placed a u)
unfolding placed
placed_two [] b u = refl
placed_two (t ∷ a) b u = placed_two a b (set u (t.index - 1) t.coefficient)

pub placed_more : (done : List Term) (t : Term) (u : List ℤ) → set (placed done u) (t.index - 1) t.coefficient ≡ placed (done ++ (t ∷ [])) u
unfolding placed
placed_more done t u = sym (placed_two done (t ∷ []) u)

pub length_placed : (done : List Term) (u : List ℤ) → length (placed done u) ≡ length u
unfolding placed
length_placed [] u = refl
length_placed (d ∷ done) u = length_placed done (set u (d.index - 1) d.coefficient) ∙ length-set u (d.index - 1) d.coefficient

length_with_slack : (y : Slack) (c : ℕ) (u : List ℤ) → length (with_slack y c u) ≡ length u
length_with_slack none c u = refl
length_with_slack (slack k lo) c u = length-set u c k

pub length_row : (n c : ℕ) (l : Line) → length (coefficient_row n c l) ≡ n
length_row n c l =
    length_with_slack (slack_of l.row.kind) c (placed l.terms (zeros n)) ∙ (length_placed l.terms (zeros n) ∙ length-replicate n (pos 0))

-- ---- rows in order
pub rows_two : (n c : ℕ) (ls ms : List Line)
    → coefficient_rows n c (ls ++ ms) ≡ coefficient_rows n c ls ++ coefficient_rows n (c + length (slack_columns ls)) ms
unfolding coefficient_rows slack_columns
rows_two n c [] ms = let z : c + 0 ≡ c = omega arith in rw z
rows_two n c (l ∷ ls) ms =
    let y = slack_column (slack_of l.row.kind) in
    let k = slack_count l.row.kind in
    let z : c + k + length (slack_columns ls) ≡ c + length (y ++ slack_columns ls) =
    rw (length-append y (slack_columns ls)) (omega (arith, length_slack (slack_of l.row.kind))) in
    ap (λ (x : List (List ℤ)). coefficient_row n c l ∷ x)
    (rows_two n (c + k) ls ms ∙ ap (λ (j : ℕ). coefficient_rows n (c + k) ls ++ coefficient_rows n j ms) z)

pub rows_more : (n c : ℕ) (done : List Line) (l : Line)
    → coefficient_rows n c (done ++ (l ∷ [])) ≡ coefficient_rows n c done ++ (coefficient_row n (c + length (slack_columns done)) l ∷ [])
unfolding coefficient_rows
rows_more n c done l = rows_two n c done (l ∷ [])

pub length_rows : (n c : ℕ) (ls : List Line) → length (coefficient_rows n c ls) ≡ length ls
unfolding coefficient_rows
length_rows n c [] = refl
length_rows n c (d ∷ ls) = let e = length_rows n (c + slack_count d.row.kind) ls in omega arith

-- rows within the limits
pub few_cells : (n m : ℕ) → n ≤ deck_columns → m ≤ deck_rows → m * n ≤ coefficient_count
few_cells n m h k = mul-le-mul k h

-- ---- rows in the tables: none, and one more
pub stored_none : (n : ℕ) (T : Tables) → T ≡ with_rows n [] T
unfolding slack_columns coefficient_rows
stored_none n T = (λ i. record { columns = written_none T.columns n i; rights = written_none T.rights 0 i; rows = written_none T.rows 0 i })

pub set_more : {A : Type 0} (o : List A) (at : ℕ) (v : List A) (i : ℕ) (x : A) → i ≡ at + length v → i < length o
    → set (overwritten o at v) i x ≡ overwritten o at (v ++ (x ∷ []))
set_more o at v i x e h =
    let l = length_written o at v (omega arith) in
    written_one (overwritten o at v) i x (omega arith) ∙ (rw e (written_then o at v (x ∷ []) (omega arith)))

module _ (n : ℕ) (done : List Line) (l : Line) (c : Cursor) (T U V : Tables) where
  pub stored_more : length done ≡ c.rows → c.columns ≡ n + length (slack_columns done)
      → c.columns + slack_count l.row.kind ≤ length T.columns → c.rows < length T.rights → c.rows < length T.rows
      → U ≡ with_rows n done T → V ≡ with_row l.row c (placed l.terms blank_line) U → V ≡ with_rows n (done ++ (l ∷ [])) T
  unfolding blank
  stored_more e f h k j p q =
      let y : List Interval = slack_column (slack_of l.row.kind) in
      let w = length_slack (slack_of l.row.kind) in
      let a = length-map done right_of in
      let b = length_rows deck_columns n done in
      let kc : overwritten (overwritten T.columns n (slack_columns done)) c.columns y ≡ overwritten T.columns n (slack_columns (done ++ (l ∷ []))) =
      rw (f, slacks_more done l) (written_then T.columns n (slack_columns done) y (omega arith)) in
      let kr : set (overwritten T.rights 0 (map right_of done)) c.rows l.row.right ≡ overwritten T.rights 0 (map right_of (done ++ (l ∷ []))) =
      rw (map_two right_of done (l ∷ [])) (set_more T.rights 0 (map right_of done) c.rows l.row.right (omega arith) k) in
      let kt : set (overwritten T.rows 0 (coefficient_rows deck_columns n done)) c.rows (coefficient_row deck_columns c.columns l)
      ≡ overwritten T.rows 0 (coefficient_rows deck_columns n (done ++ (l ∷ []))) =
      rw (rows_more deck_columns n done l, f) (set_more T.rows 0 (coefficient_rows deck_columns n done) c.rows
      (coefficient_row deck_columns (n + length (slack_columns done)) l) (omega arith) j) in
      q ∙ ap (with_row l.row c (placed l.terms blank_line)) p ∙ (λ i. record { columns = kc i; rights = kr i; rows = kt i })

-- ---- what a section answered and left
module _ {A T : Type 0} (f : A → ℕ → Cursor) (g : A → T) (z : T) where
  pub wiped : (o : Outcome A) (r : Result Cursor Refusal) (t : T) → LeftOpen (left f g z) o r t → is_err r ≡ true → left f g z o ≡ (r, z)
  wiped o (Ok c) t h e = absurd (false≢true e)
  wiped o (Err why) t h e = ap (left f g z) h

  pub left_found : (o : Outcome A) (c : Cursor) (t : T) → left f g z o ≡ (Ok c, t) → WasRead o (λ a e. (c ≡ f a e) × (t ≡ g a))
  left_found (Ok (a, e)) c t h =
      let q : ◌≡◌ {A = Result Cursor Refusal} (Ok (f a e)) (Ok c) = ap (λ (x : Result Cursor Refusal × T). x.0) h in
      let d : f a e ≡ c = cc in
      record { what = a; end = e; read = refl; rest = (sym d, sym (ap (λ (x : Result Cursor Refusal × T). x.1) h)) }
  left_found (Err why) c t h =
      let q : ◌≡◌ {A = Result Cursor Refusal} (Err why) (Ok c) = ap (λ (x : Result Cursor Refusal × T). x.0) h in
      let n : ◌≡◌ {A = ℕ} 0 1 = cc in
      absurd (omega arith)

  pub left_refused : (o : Outcome A) (why : Refusal) (t : T) → left f g z o ≡ (Err why, t) → o ≡ Err why
  left_refused (Ok (a, e)) why t h =
      let q : ◌≡◌ {A = Result Cursor Refusal} (Ok (f a e)) (Err why) = ap (λ (x : Result Cursor Refusal × T). x.0) h in
      let n : ◌≡◌ {A = ℕ} 0 1 = cc in
      absurd (omega arith)
  left_refused (Err w) why t h =
      let q : ◌≡◌ {A = Result Cursor Refusal} (Err w) (Err why) = ap (λ (x : Result Cursor Refusal × T). x.0) h in
      let d : w ≡ why = cc in
      ap Err d
