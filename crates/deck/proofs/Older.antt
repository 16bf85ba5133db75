-- Texts from before document 02 changed them are read as the decks that they were.
--   lines_alone                    a deck without volumes has the rows of its lines alone
--   goal_again, again_carries      a goal is a high goal to itself, and so it is read again
--   stays, stays_too               where goals are written twice, a line's lower and upper stay
--   line_carries, lines_carry, section_carries   a line, so many of them, the section of intervals
--   deck_carries                   the sections of intervals and rows, and what follows
--   end_kept, end_carries          nothing is left of either text
--   zero_carries                   nothing is left of the first; the second has its 0, a section of no volumes
--   twice, one_goal_twice, older_twice   the low and the high goals are one list; closed-intervals, of which intervals
--   one_goal_texts, older_texts    the theorems; is_read, older-lines, parts of them
-- Assumes nothing.
use mathlib.Core.Path.{◌≡◌, refl, sym, ap, ◌∙◌, subst}
use mathlib.Core.Bool.{Bool, true, false, cond, false≢true}
use mathlib.Core.List.{List, [], ◌∷◌, ◌++◌, append-nil}
use Prim.Native.Nat.{ℕ, zero, suc, ◌≤◌}
use native.Mathlib.Omega.{arith}
use borrow.Author.Tests.{le-leb, le-ltb}
use lib.Dec.{leb-suc-zero, eqb-suc-zero}
use lib.IntN.{ℤ, pos, negsuc, nat_abs, neg_ℤ}
use lib.ListN.{length, drop}
use lib.Signed.{le_z}
use Rattle.whole.specs.Tests.{in_range}
use Rattle.std.proofs.Common.{Some, Ok}
use Rattle.text.specs.Tokens.{Token, tokens}
use Rattle.text.specs.Positions.{next_at}
use Rattle.text.proofs.Scanning.{tokens_end, found_token, end_token}
use Rattle.problem.specs.Limits.{max_bound, max_goal}
use Rattle.problem.specs.declared.Refusal.TheVariants.{Size, Bound, Goal}
use Rattle.sections.specs.Rules.{Outcome, then, on_end, closed}
use Rattle.sections.specs.Sections.{deck_columns, max_text, top_goal, top_high, high_from, Line, interval, intervals, interval_section, row_section}
use Rattle.sections.specs.declared.Interval.{Interval}
use Rattle.sections.proofs.Numbers.{same_ok, same_end, then_ok, closed_ok, within_in}
use Rattle.sections.proofs.Extending.{Rule, Change, Kept, Carries, ok_carries, then_carries, within_carries, row_section_extends}
use Rattle.volumes.specs.Volumes.{Volume, volumes, volume_section}
use Rattle.volumes.specs.PathLines.{swept_lines}
use Rattle.volumes.proofs.Extending.{volume_section_extends}
use Rattle.deck.specs.Posing.{Deck, deck, read_deck, all_lines, lows, highs}
use Rattle.deck.specs.Older.{one_goal_interval, one_goal_intervals, one_goal_section, one_goal_deck, older_deck, twice_from}
use Rattle.deck.specs.Older.{goals_twice, IsRead, OneGoalTexts, OlderTexts}
use Rattle.deck.proofs.Whole.{made}
use Rattle.deck.proofs.Pairs.{deck_twice}

pub lines_alone : (is : List Interval) (ls : List Line) → all_lines (made is ls []) ≡ ls
unfolding swept_lines
lines_alone is ls = append-nil ls

-- ---- a line
-- a goal that was read; t says whether it may be set
goal_again : (t : Bool) (goal : ℤ) → le_z (pos 0) goal ≡ true → le_z goal (cond t (pos max_goal) (pos 0)) ≡ true
    → in_range goal (top_high goal) goal ≡ true
goal_again t (negsuc n) a b = absurd (false≢true a)
goal_again t (pos zero) a b = refl
goal_again true (pos (suc n)) a b = rw (le-leb (suc n) (suc n) (omega arith), eqb-suc-zero n) b
goal_again false (pos (suc n)) a b = absurd (false≢true (rw (leb-suc-zero n) at b))

module _ (k : ℕ) (lower : Token) where
  stays : (ts : List Token) → twice_from (suc k) (lower ∷ ts) ≡ lower ∷ drop 1 (twice_from (suc k) (lower ∷ ts))
  unfolding twice_from
  stays [] = refl
  stays (upper ∷ []) = refl
  stays (upper ∷ (goal ∷ ts)) = refl

  stays_too : (upper : Token) (ts : List Token)
      → drop 1 (twice_from (suc k) (lower ∷ (upper ∷ ts))) ≡ upper ∷ drop 2 (twice_from (suc k) (lower ∷ (upper ∷ ts)))
  unfolding twice_from
  stays_too upper [] = refl
  stays_too upper (goal ∷ ts) = refl

again_carries : (F : Change) (goal : ℤ) (made : ℤ → Interval) → in_range goal (top_high goal) goal ≡ true
    → Carries (λ ts. Some goal ∷ F ts) (λ s at. Ok (made goal, at)) (λ s at. then (high_from s goal at) (λ high p. Ok (made high, p))) (λ i. F)
again_carries F goal made i = record {
  kept = λ s w a at p e g h.
      let q : at ≡ e = same_end h in
      let m = found_token w p (Some goal) (F (tokens (drop at s))) g in
      record {
        end = m.end;
        read = rw m.found (rw i (ap (λ (x : Interval). Ok (x, m.end)) (same_ok h)));
        rest = m.rest ∙ ap (λ (j : ℕ). F (tokens (drop j s))) q;
      };
}

-- ---- the sections, with z behind the first text
module _ (z : List Token) where
  line_carries : (k : ℕ) → Carries (λ ts. twice_from (suc k) (ts ++ z)) one_goal_interval interval (λ i ts. twice_from k (ts ++ z))
  unfolding twice_from
  line_carries k =
      then_carries (within_carries _ _ (λ v ts. stays k (Some v) (ts ++ z)) (neg_ℤ (pos max_bound)) (pos max_bound) Bound) (λ lower _.
      then_carries (within_carries _ _ (λ v ts. stays_too k (Some lower) (Some v) (ts ++ z)) lower (pos max_bound) Bound) (λ upper _.
      then_carries (within_carries _ (λ v ts. Some v ∷ twice_from k (ts ++ z)) (λ v ts. refl) (pos 0) (top_goal lower) Goal) (λ goal was.
      let r = within_in (pos 0) (top_goal lower) Goal goal was.end was.text was.at was.read in
      again_carries _ goal _ (goal_again (le_z (pos 1) lower) goal r.0 r.1))))

  lines_carry : (k : ℕ) (done : List Interval)
      → Carries (λ ts. twice_from k (ts ++ z)) (λ s. one_goal_intervals s k done) (λ s. intervals s k done) (λ is ts. ts ++ z)
  unfolding one_goal_intervals intervals twice_from
  lines_carry zero done = ok_carries done
  lines_carry (suc k) done = then_carries (line_carries k) (λ i _. lines_carry k (done ++ (i ∷ [])))

  section_carries : Carries (λ ts. goals_twice (ts ++ z)) one_goal_section interval_section (λ is ts. ts ++ z)
  section_carries =
      then_carries (within_carries _ (λ n ts. twice_from (nat_abs n) (ts ++ z)) (λ n ts. refl) (pos 1) (pos deck_columns) Size) (λ n _.
      lines_carry (nat_abs n) [])

  deck_carries : (f g : List Interval → List Line → Rule Deck)
      → ((is : List Interval) (ls : List Line) → Carries (λ ts. ts ++ z) (f is ls) (g is ls) (λ d ts. []))
      → Carries (λ ts. goals_twice (ts ++ z))
      (λ s at. then (one_goal_section s at) (λ is p. then (row_section s (length is) p) (λ ls q. f is ls s q)))
      (λ s at. then (interval_section s at) (λ is p. then (row_section s (length is) p) (λ ls q. g is ls s q))) (λ d ts. [])
  deck_carries f g x = then_carries section_carries (λ is _. then_carries (row_section_extends z (length is)) (λ ls _. x is ls))

-- ---- the end of both texts
end_kept : (w : List ℕ) (p : ℕ) (d b : Deck) → d ≡ b → tokens (drop p w) ≡ [] → Kept (closed w d p) b [] w
end_kept w p d b e g = record { end = p; read = ap (on_end d p) (end_token w p g) ∙ ap (λ (x : Deck). Ok (x, p)) e; rest = g }

end_carries : (d : Deck) → Carries (λ ts. ts ++ []) (λ s. closed s d) (λ s. closed s d) (λ b ts. [])
end_carries d = record {
  kept = λ s w b at p e g h.
      let c = closed_ok d b at e (next_at s at) h in
      end_kept w p d b c.0 (g ∙ ap (λ (ts : List Token). ts ++ []) (tokens_end s at c.1));
}

zero_carries : (is : List Interval) (ls : List Line) → Carries (λ ts. ts ++ (Some (pos 0) ∷ [])) (λ s. closed s (made is ls []))
    (λ s at. then (volume_section s (length is) (length ls) at) (λ vs p. closed s (made is ls vs) p)) (λ d ts. [])
unfolding volumes
zero_carries is ls = record {
  kept = λ s w b at p e g h.
      let c = closed_ok (made is ls []) b at e (next_at s at) h in
      let m = found_token w p (Some (pos 0)) [] (g ∙ ap (λ (ts : List Token). ts ++ (Some (pos 0) ∷ [])) (tokens_end s at c.1)) in
      let k = end_kept w m.end (made is ls []) b c.0 m.rest in
      record { end = k.end; read = rw m.found k.read; rest = k.rest };
}

-- ---- the theorems
is_read : (w : List ℕ) (d : Deck) → length w ≤ max_text → Kept (deck w) d [] w → IsRead w d
unfolding read_deck
is_read w d l k = (k.end, rw (le-ltb max_text (length w) l) k.read)

-- the columns of a text with one goal a line
module _ (s : List ℕ) (d : Deck) (at : ℕ) where
  closed_intervals : (is : List Interval) (ls : List Line) (vs : List Volume) (q : ℕ) → closed s (made is ls vs) q ≡ Ok (d, at) → is ≡ d.intervals
  closed_intervals is ls vs q h = ap (λ (x : Deck). x.intervals) (closed_ok (made is ls vs) d q at (next_at s q) h).0

  twice : (f : List Interval → List Line → ℕ → Outcome Deck)
      → ((is : List Interval) (ls : List Line) (q : ℕ) → f is ls q ≡ Ok (d, at) → is ≡ d.intervals)
      → then (one_goal_section s 0) (λ is p. then (row_section s (length is) p) (λ ls q. f is ls q)) ≡ Ok (d, at) → lows d ≡ highs d
  twice f x h =
      let a = then_ok (one_goal_section s 0) (λ is p. then (row_section s (length is) p) (λ ls q. f is ls q)) d at h in
      let b = then_ok (row_section s (length a.what) a.at) (λ ls q. f a.what ls q) d at a.second in
      deck_twice s a.at d (a.first ∙ ap (λ (is : List Interval). Ok (is, a.at)) (x a.what b.what b.at b.second))

  one_goal_twice : one_goal_deck s ≡ Ok (d, at) → lows d ≡ highs d
  one_goal_twice =
      twice (λ is ls q. then (volume_section s (length is) (length ls) q) (λ vs p. closed s (made is ls vs) p)) (λ is ls q h.
      let c = then_ok (volume_section s (length is) (length ls) q) (λ vs p. closed s (made is ls vs) p) d at h in
      closed_intervals is ls c.what c.at c.second)

  older_twice : older_deck s ≡ Ok (d, at) → lows d ≡ highs d
  older_twice = twice (λ is ls q. closed s (made is ls []) q) (λ is ls q h. closed_intervals is ls [] q h)

pub one_goal_texts : OneGoalTexts
one_goal_texts s w d at h t l = (
  is_read w d l
      ((deck_carries [] _ _ (λ is ls. then_carries (volume_section_extends [] (length is) (length ls)) (λ vs _. end_carries (made is ls vs)))
      ).kept s w d 0 0 at (t ∙ ap goals_twice (sym (append-nil (tokens s)))) h),
  one_goal_twice s d at h,
)

older_lines : (s : List ℕ) (d : Deck) (at : ℕ) → older_deck s ≡ Ok (d, at) → all_lines d ≡ d.lines
older_lines s d at h =
    let a = then_ok (one_goal_section s 0) _ d at h in
    let b = then_ok (row_section s (length a.what) a.at) (λ ls p. closed s (made a.what ls []) p) d at a.second in
    let c = closed_ok (made a.what b.what []) d b.at at (next_at s b.at) b.second in
    subst (λ (x : Deck). all_lines x ≡ x.lines) {x = made a.what b.what []} c.0 (lines_alone a.what b.what)

pub older_texts : OlderTexts
older_texts s v w d at h g t l = (
  is_read w d l ((deck_carries (Some (pos 0) ∷ []) _ _ zero_carries).kept s w d 0 0 at (t ∙ ap goals_twice g) h),
  older_twice s d at h,
  older_lines s d at h,
)
