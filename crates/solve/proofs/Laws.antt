-- Laws of the listing program: the parts of buffers of the largest size, and what a text comes to by what the reader returns.
--   clear_strides n   n strides that are 0; shut, as `blank` is
--   few_tableau       a problem within the limits has its tableau within the largest buffer
--   cleared P         the parts of blank buffers that a problem needs
--   listed_by         the listing of what an assignment returns and leaves is put into the buffer
--   listed_into       they are its zero_buffers
--   largest           the buffers that the reader is lent, which have the lengths that it asks for
--   refused_into      a text that is turned back lists no column
--   Taken, taken      a text that is read, with its sizes and what the reader's buffers hold
--   few_columns, few_rows    it is within the limits
--   accepted_into     the parts that its problem has are the text's
-- Assumes nothing.
use Rattle.std.proofs.Common.{◌≡◌, List, [], map, ℕ, ◌+◌, ◌-◌, ◌*◌, ◌≤◌, ℤ, pos, length, take, replicate, Result, Ok, Err, refl, sym, ap, ◌∙◌, arith}
use native.Mathlib.Nat.{mul-le-mul}
use borrow.Author.Tests.{eq-eqb}
use lib.ListN.{length-append, length-map}
use lib.Seq.{take_at}
use Rattle.whole.proofs.Lists.{take_replicate}
use Rattle.whole.specs.Lists.{zeros}
use Rattle.whole.proofs.Never.{never}
use Rattle.problem.specs.Answers.{Answer}
use Rattle.problem.specs.Checks.{Posed}
use Rattle.problem.specs.declared.Problem.{Problem}
use Rattle.problem.specs.declared.Refusal.{Refusal}
use Rattle.sections.specs.Rules.{Outcome}
use Rattle.sections.specs.Sections.{deck_columns, deck_rows, coefficient_count}
use Rattle.sections.specs.StatedColumns.{lower_of, upper_of, low_of, high_of, right_of, padded, blank}
use Rattle.neighbours.specs.Neighbours.{given_of, ideals_of}
use Rattle.neighbours.proofs.Laws.{numbers_length}
use Rattle.deck.specs.Posing.{Deck, all_lines, read_deck, columns_of, count_of, coefficients_of, lowers, stated, posed}
use Rattle.deck.specs.Reader.{DeckBuffers, ReadDone, deck_buffers, read_done, Reading, shape_of, filled, on_deck, read}
use Rattle.deck.specs.declared.Shape.{Shape}
use Rattle.deck.proofs.Lists.{length_compacted}
use Rattle.engine.specs.Assign.{Buffers, Done, buffers, n, m, assign, posed_by}
use Rattle.engine.specs.Replies.{done_by}
use Rattle.engine.specs.declared.Assigned.{Assigned}
use Rattle.report.specs.Listing.{listing, lines_of, placed_in, write_listing}
use Rattle.solve.specs.Program.{program_limit, zero_buffers, listed, on_deck as printed_of, printed, print_into, list_into, parts_of}

abbrev tableau_size : ℕ
tableau_size = deck_columns * (deck_rows + deck_columns)

unfoldable pub clear_strides : ℕ → List ℕ
clear_strides n = replicate n 0

-- ---- lengths
pub few_tableau : (n m : ℕ) → n ≤ deck_columns → m ≤ deck_rows → n * (m + n) ≤ tableau_size
few_tableau n m h k = let s : m + n ≤ deck_rows + deck_columns = omega arith in mul-le-mul h s

-- ---- parts
take_blank : (k n : ℕ) (t : List ℤ) → t ≡ blank n → k ≤ n → take k t ≡ zeros k
unfolding blank
take_blank k n t e h = ap (take k) e ∙ take_replicate k n (pos 0) h

take_strides : (k n : ℕ) (d : List ℕ) → d ≡ clear_strides n → k ≤ n → take k d ≡ replicate k 0
unfolding clear_strides
take_strides k n d e h = ap (take k) e ∙ take_replicate k n 0 h

part_is : (size k : ℕ) (u : List ℤ) → k ≡ length u → take k (padded size u) ≡ u
part_is size k u h = take_at u (zeros (size - length u)) k (sym h)

-- what is padded to a size is no longer than that
within : (size k : ℕ) (u : List ℤ) → k ≡ length u → length (padded size u) ≡ size → k ≤ size
within size k u h q = let a = length-append u (zeros (size - length u)) in omega arith

-- ---- an assignment's listing
write_even : (o : List ℕ) (a : Answer) (v : List ℤ) (d : List ℕ) → length v ≡ length d → write_listing o a v d ≡ placed_in o (listing a v d)
unfolding write_listing
write_even o a v d h = rw (eq-eqb (lines_of a (length d)) (lines_of a (length v)) (ap (lines_of a) (sym h)))

-- the parts of blank buffers that a problem needs
abbrev pub cleared : Posed → Buffers
cleared P = buffers (take (n P * (m P + n P)) (blank tableau_size)) (take (n P) (blank deck_columns)) (take (n P) (clear_strides deck_columns))

cleared_blank : (P : Posed) → n P ≤ deck_columns → m P ≤ deck_rows → cleared P ≡ zero_buffers P
cleared_blank P h k =
    let pt = take_blank (n P * (m P + n P)) tableau_size _ refl (few_tableau (n P) (m P) h k) in
    let pv = take_blank (n P) deck_columns _ refl h in
    let pd = take_strides (n P) deck_columns _ refl h in
    λ i. buffers (pt i) (pv i) (pd i)

pub listed_by : (o : List ℕ) (r : Result Assigned Refusal) (B : Buffers) (d : Done) → done_by r B ≡ d → length B.values ≡ length B.strides
    → write_listing o (done_by r B).answer B.values B.strides ≡ placed_in o (listed d)
listed_by o (Ok x) B d e l = write_even o (Ok x.verdict) B.values B.strides l ∙ ap (λ (x : Done). placed_in o (listed x)) e
listed_by o (Err why) B d e l = write_even o (Err why) B.values B.strides l ∙ ap (λ (x : Done). placed_in o (listed x)) e

pub listed_into : (o : List ℕ) (P : Posed) → n P ≤ deck_columns → m P ≤ deck_rows → placed_in o (listed (assign P (cleared P))) ≡ list_into o P
unfolding list_into
listed_into o P h k = ap (λ (B : Buffers). placed_in o (listed (assign P B))) (cleared_blank P h k)

-- ---- a text, by what the reader returns
-- the buffers that it is lent
abbrev pub largest : DeckBuffers
largest =
    deck_buffers (blank coefficient_count) (blank deck_rows) (blank deck_columns) (blank deck_columns) (blank deck_columns) (blank deck_columns)
    (blank deck_columns) (blank deck_columns)

-- they have the lengths that it asks for
read_largest : (s : List ℕ) → read s largest ≡ on_deck (read_deck s) largest
unfolding read blank
read_largest s = refl

-- what the reader returns, by the deck that the text states
abbrev told : Reading → Reading
told r = r

found : (s : List ℕ) (r : Reading) (B : DeckBuffers) → read_done r B ≡ read s largest → {x : Outcome Deck} → read_deck s ≡ x
    → r ≡ (on_deck x largest).reading
found s r B e h = ap (λ (x : ReadDone). x.reading) (e ∙ read_largest s ∙ ap (λ (x : Outcome Deck). on_deck x largest) h)

-- a text that is turned back
pub refused_into : (o s : List ℕ) (why : Refusal) (D : DeckBuffers) → read_done (Err why) D ≡ read s largest
    → write_listing o (Err why) [] [] ≡ print_into o s
unfolding print_into printed
refused_into o s why D e = by (read_deck s) refl
  where
    by : (x : Outcome Deck) → read_deck s ≡ x → write_listing o (Err why) [] [] ≡ placed_in o (printed_of x)
    by (Ok (d, at)) h = let q : told (Err why) ≡ told (Ok (shape_of d)) = found s (Err why) D e h in never (cc)
    by (Err w) h =
        let q : told (Err why) ≡ told (Err w) = found s (Err why) D e h in
        let r : why ≡ w = cc in
        rw (← r) (write_even o (Err why) [] [] refl)

-- a text that is read: its problem's sizes, and what the buffers hold
pub record Taken (s : List ℕ) (h : Shape) (B : DeckBuffers) : Type 0 where
  pub deck : Deck
  pub rest : ℕ
  pub is : read_deck s ≡ Ok (deck, rest)
  pub shape : h ≡ shape_of deck
  pub buffers : B ≡ filled (posed 0 deck)

pub taken : (s : List ℕ) (h : Shape) (B : DeckBuffers) → read_done (Ok h) B ≡ read s largest → Taken s h B
taken s h B e = by (read_deck s) refl
  where
    by : (x : Outcome Deck) → read_deck s ≡ x → Taken s h B
    by (Ok (d, at)) k =
        let q : told (Ok h) ≡ told (Ok (shape_of d)) = found s (Ok h) B e k in
        let b = e ∙ read_largest s ∙ ap (λ (x : Outcome Deck). on_deck x largest) k in
        record { deck = d; rest = at; is = k; shape = cc; buffers = ap (λ (x : ReadDone). x.buffers) b }
    by (Err w) k = let q : told (Ok h) ≡ told (Err w) = found s (Ok h) B e k in never (cc)

module _ {s : List ℕ} {h : Shape} {B : DeckBuffers} (T : Taken s h B) where
  columns_long : h.columns ≡ length (lowers T.deck)
  columns_long = ap (λ (k : Shape). k.columns) T.shape ∙ sym (length-map (columns_of T.deck) lower_of)

  rows_long : h.rows ≡ length (map right_of (all_lines T.deck))
  rows_long = ap (λ (k : Shape). k.rows) T.shape ∙ sym (length-map (all_lines T.deck) right_of)

  -- it is within the limits: its bounds and its right sides fit into buffers of that length
  pub few_columns : length B.lower ≡ deck_columns → h.columns ≤ deck_columns
  unfolding posed
  few_columns q = within deck_columns h.columns (lowers T.deck) columns_long (ap (λ (b : DeckBuffers). length b.lower) (sym T.buffers) ∙ q)

  pub few_rows : length B.rights ≡ deck_rows → h.rows ≤ deck_rows
  unfolding posed
  few_rows q = within deck_rows h.rows (map right_of (all_lines T.deck)) rows_long (ap (λ (b : DeckBuffers). length b.rights) (sym T.buffers) ∙ q)

  abbrev p : Problem
  p = record { columns = h.columns; rows = h.rows; limit = program_limit }

  -- the parts that its problem has are the text's
  posed_is : parts_of p B ≡ posed program_limit T.deck
  unfolding posed
  posed_is =
      let c : h.columns ≡ count_of T.deck = ap (λ (k : Shape). k.columns) T.shape in
      let r : h.rows ≡ length (all_lines T.deck) = ap (λ (k : Shape). k.rows) T.shape in
      let cells : h.rows * h.columns ≡ length (coefficients_of T.deck) =
      (λ i. r i * c i) ∙ sym (length_compacted (count_of T.deck) (length T.deck.intervals) (all_lines T.deck)) in
      let pc = part_is coefficient_count (h.rows * h.columns) (coefficients_of T.deck) cells in
      let pb = part_is deck_rows h.rows _ rows_long in
      let pl = part_is deck_columns h.columns _ columns_long in
      let pu = part_is deck_columns h.columns _ (c ∙ sym (length-map (columns_of T.deck) upper_of)) in
      let pg = part_is deck_columns h.columns _ (c ∙ sym (length-map (columns_of T.deck) low_of)) in
      let ph = part_is deck_columns h.columns _ (c ∙ sym (length-map (columns_of T.deck) high_of)) in
      let pa = part_is deck_columns h.columns (given_of (stated T.deck) (count_of T.deck)) (c ∙ sym (numbers_length _ (count_of T.deck) 0)) in
      let px = part_is deck_columns h.columns (ideals_of (stated T.deck) (count_of T.deck)) (c ∙ sym (numbers_length _ (count_of T.deck) 0)) in
      ap (parts_of p) T.buffers
      ∙ (λ i. posed_by (record { columns = c i; rows = r i; limit = program_limit }) (pc i) (pb i) (pl i) (pu i) (pg i) (ph i) (pa i) (px i))

  deck_into : (o : List ℕ) → list_into o (posed program_limit T.deck) ≡ print_into o s
  unfolding list_into print_into printed
  deck_into o = rw T.is refl

  pub accepted_into : (o : List ℕ) → list_into o (parts_of p B) ≡ print_into o s
  accepted_into o = ap (list_into o) posed_is ∙ deck_into o
