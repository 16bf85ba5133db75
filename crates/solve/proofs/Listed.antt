-- Every text is listed: its listing has room in the program's buffer.
--   longest                the longest listing that numbers of these sizes have
--   assigned_short         the listing of a whole assignment is short; refused-short, and so is that of a refusal
--   every_text_is_listed   of every list of numbers, bytes or not
--   returned, length_fits   so a call on a buffer with that room returns its length, which is within the room
-- Assumes nothing.
use Rattle.std.specs.Prelude.{Ok, Err}
use mathlib.Core.Path.{◌≡◌, refl, ◌∙◌, ap}
use mathlib.Core.Bool.{true}
use mathlib.Core.List.{List, []}
use Prim.Native.Nat.{ℕ, ◌≤◌}
use native.Mathlib.Omega.{arith}
use borrow.Author.Tests.{le-leb}
use lib.IntN.{ℤ, nat_abs}
use lib.ListN.{length, get_or}
use Rattle.whole.specs.Lists.{entry}
use Rattle.problem.specs.Limits.{M, max_columns}
use Rattle.problem.specs.Answers.{Answer, answer_counts, is_verdict}
use Rattle.problem.specs.Checks.{Posed}
use Rattle.problem.specs.declared.Refusal.{Refusal}
use Rattle.sections.specs.Rules.{Outcome}
use Rattle.deck.specs.Posing.{Deck, read_deck, posed}
use Rattle.engine.specs.Assign.{Buffers, Done, assign}
use Rattle.engine.proofs.Leaving.{Leaves, assign_leaves}
use Rattle.settling.proofs.Leaving.{total}
use Rattle.report.specs.Listing.{Written, listing, ListingDone, listing_done}
use Rattle.report.proofs.Lengths.{listing_most}
use Rattle.solve.specs.Program.{program_limit, zero_buffers, listed, on_deck, printed, print_into, listing_room, longest_listing, ListedWhole}

abbrev Short : List ℕ → Type 0
Short w = length w ≤ longest_listing

-- a column has two digits, a value and a stride ten, a count of steps five
longest : (a : Answer) (v : List ℤ) (d : List ℕ) → length v ≤ max_columns → ((j : ℕ) → nat_abs (entry j v) ≤ M) → ((j : ℕ) → get_or d j 0 ≤ M)
    → total (answer_counts a) ≤ program_limit → Short (listing a v d)
longest a v d n x y k =
    omega (arith, listing_most 4 1 9 9 v d (omega arith) (λ j. omega (arith, x j)) (λ j. omega (arith, y j)) a (omega arith) (omega arith))

-- a refusal lists no column
refused_short : (why : Refusal) (v : List ℤ) (d : List ℕ) → Short (listing (Err why) v d)
unfolding listing
refused_short why v d = longest (Err why) [] [] (omega arith) (λ j. omega arith) (λ j. omega arith) (omega arith)

leaves_short : (P : Posed) (d : Done) → P.problem.limit ≤ program_limit → Leaves P d → Short (listed d)
leaves_short P d h l =
    longest d.answer d.values d.strides (omega (arith, l.few, l.values.long)) l.values.small l.strides (omega (arith, l.steps))

by_answer : (d : Done) → (is_verdict d.answer ≡ true → Short (listed d)) → Short (listed d)
by_answer d f = go d.answer f
  where
    go : (a : Answer) → (is_verdict a ≡ true → Short (listing a d.values d.strides)) → Short (listing a d.values d.strides)
    go (Ok verdict) f = f refl
    go (Err why) f = refused_short why d.values d.strides

assigned_short : (P : Posed) (B : Buffers) → P.problem.limit ≤ program_limit → Short (listed (assign P B))
assigned_short P B h = by_answer (assign P B) (λ v. leaves_short P (assign P B) h (assign_leaves P B v))

deck_short : (x : Outcome Deck) → Short (on_deck x)
unfolding posed
deck_short (Ok (d, at)) = assigned_short (posed program_limit d) (zero_buffers (posed program_limit d)) (omega arith)
deck_short (Err why) = refused_short why [] []

printed_short : (s : List ℕ) → Short (printed s)
unfolding printed
printed_short s = deck_short (read_deck s)

pub every_text_is_listed : (s : List ℕ) → ListedWhole s
unfolding print_into
every_text_is_listed s = record {
  short = printed_short s;
  whole = λ o h. rw (le-leb (length (printed s)) (length o) (omega (arith, printed_short s))) refl;
}

-- ---- what a call returns, where the buffer has room
module _ (o s : List ℕ) (h : listing_room ≤ length o) where
  pub returned : (w : Written) (p : List ℕ) → listing_done w p ≡ print_into o s → w ≡ Ok (length (printed s))
  returned w p e = ap (λ (x : ListingDone). x.written) (e ∙ (every_text_is_listed s).whole o h)

  pub length_fits : (n : ℕ) (p : List ℕ) → listing_done (Ok n) p ≡ print_into o s → n ≤ listing_room
  length_fits n p e =
      let q : ◌≡◌ {A = Written} (Ok n) (Ok (length (printed s))) = returned (Ok n) p e in
      let l : n ≡ length (printed s) = cc in
      omega (arith, printed_short s)
