-- How far a search by places of the ranking has come. A candidate is a move at a place whose column it improves; the incumbent, the best one
-- so far, is one number (Numbers). A vector is seen at the first place whose column it changes: its moves are tried there, alone and with each
-- vector that is left.
--   Place                  a place of the ranking that is searched, its column and that column's measure (declared in src/)
--   Sign, Lead             whether a vector is added or taken away, and a vector with its sign (declared in src/)
--   value x                +1 or −1, by the sign x
--   alone s x              the vector s with the sign x
--   both s x t y           two vectors with their signs, as a move of the basis
--   ZeroBefore S s k       vector s changes no column before place k
--   Dominated S z o        the move o is no better than z
--   Incumbent S z          z is the number of a move that improves, or of nothing
--   PairIncumbent S z      and not of a single
--   NoWorse S z y          the incumbent y, not a single, has come after z
--   Still S o k            the move o changes no column before place k
--   FirstChanged S o r     r is the first place whose column the move o changes, or it changes none of the ranking
--   Unseen S u k           the vectors of the set u, which change no column before place k
--   Explored S u z         each move of a vector outside the set u is no better than z
--   Before S u k z         the state before place k, where the vectors of the set u are not seen yet
--   Final S z              no move is better than z
--   Searched S u k z       the end, with a candidate before place k, or the state before it
--   Fresh h u w            w has the vectors of the set u that are seen at this place
--   Blocked h l s x        vector s with the sign x fails alone at the column noted, against the measure of this place
--   Decided h w z          no vector of the set w is better than z alone
--   Tried h w l            each of them fails alone, at the columns noted in l
--   Found h w y            y is the number of the best of them, which improves this place alone
--   Best h w l r           r is the best of the vectors of the set w that improves this place alone, or none does
--   Singled h w l r        the same, with the notes l
--   Led h l n              a vector n that is seen at this place with its sign, and fails alone
--   Others h s w           the vectors of the set w, which are not s and not seen before this place
--   Paired h o             a pair of two vectors that are not seen before this place
-- Assumes nothing.
use Rattle.std.specs.Prelude.{◌≡◌, ◌⊎◌, true, false, cond, ◌&&◌, List, ℕ, ◌+◌, ◌*◌, ◌<◌, ◌≤◌, ltb, ℤ, pos, negsuc, length, get_or}
use Rattle.std.specs.Prelude.{Option, Some, None}
use Rattle.problem.specs.Limits.{max_columns}
use Rattle.settling.specs.declared.Move.{Move}
use Rattle.settling.specs.Moves.{single, pair, moves, changes}
use Rattle.settling.specs.Verdicts.{Listed}
use Rattle.search.specs.declared.given.Search.{Search}
use Rattle.search.specs.declared.seen.Lead.{Lead}
use Rattle.search.specs.declared.seen.Note.{Note}
use Rattle.search.specs.declared.seen.Place.{Place}
use Rattle.search.specs.declared.seen.Sign.{Sign}
use Rattle.search.specs.declared.seen.Sign.TheVariants.{Plus, Minus}
use Rattle.search.specs.Notes.{blocking_at, Noted}
use Rattle.search.specs.Numbers.{first_pair, span, DominatedBy, ImprovingOrNone}
use Rattle.search.specs.Searches.{basis_of, better, passing}
use Rattle.search.specs.Sets.{has, touches}

abbrev pub value : Sign → ℤ
value Plus = pos 1
value Minus = negsuc 0

abbrev pub alone : ℕ → Sign → Move
alone s x = single s (value x)

abbrev pub both : ℕ → Sign → ℕ → Sign → Move
both s x t y = cond (ltb s t) (pair s (value x) t (value y)) (pair t (value y) s (value x))

pub record ZeroBefore (S : Search) (s k : ℕ) : Type 0 where
  pub each : (x : ℕ) → x < k → x < length S.order.now → touches (basis_of S) s (get_or S.order.now x 0) ≡ false

abbrev pub Dominated : Search → ℕ → Move → Type 0
Dominated S z o = DominatedBy (better S) S.order.now z o

abbrev pub Incumbent : Search → ℕ → Type 0
Incumbent S z = ImprovingOrNone (better S) S.order.now S.basis.vectors z

pub record PairIncumbent (S : Search) (z : ℕ) : Type 0 where
  pub incumbent : Incumbent S z
  pub late : (k : ℕ) → k < length S.order.now → k * span ≤ z → k * span + first_pair ≤ z

pub record NoWorse (S : Search) (z y : ℕ) : Type 0 where
  pub less : y ≤ z
  pub incumbent : PairIncumbent S y

abbrev pub Still : Search → Move → ℕ → Type 0
Still S o k = (x : ℕ) → x < k → x < length S.order.now → changes (basis_of S) o (get_or S.order.now x 0) ≡ false

abbrev pub FirstChanged : Search → Move → Option ℕ → Type 0
FirstChanged S o None = Still S o (length S.order.now)
FirstChanged S o (Some k) = (k < length S.order.now) × Still S o k × (changes (basis_of S) o (get_or S.order.now k 0) ≡ true)

-- ---- between two places
pub record Unseen (S : Search) (u k : ℕ) : Type 0 where
  pub inside : (s : ℕ) → has u s ≡ true → s < S.basis.vectors
  pub zero_before : (s : ℕ) → has u s ≡ true → ZeroBefore S s k

abbrev pub Explored : Search → ℕ → ℕ → Type 0
Explored S u z = (o : Move) → Listed o (moves S.basis.vectors) → (has u o.s ≡ false) ⊎ (has u o.t ≡ false) → Dominated S z o

pub record Before (S : Search) (u k z : ℕ) : Type 0 where
  pub incumbent : PairIncumbent S z
  pub unseen : Unseen S u k
  pub explored : Explored S u z

pub record Final (S : Search) (z : ℕ) : Type 0 where
  pub incumbent : Incumbent S z
  pub all : (o : Move) → Listed o (moves S.basis.vectors) → Dominated S z o

abbrev pub Searched : Search → ℕ → ℕ → ℕ → Type 0
Searched S u k z = (Final S z × (z < k * span)) ⊎ Before S u k z

-- ---- the singles of a place
pub record Fresh (h : Place) (u w : ℕ) : Type 0 where
  pub is : (s : ℕ) → has w s ≡ touches (basis_of h.search.now) s h.column && has u s

pub record Blocked (h : Place) (notes : List Note) (s : ℕ) (x : Sign) : Type 0 where
  pub inside : blocking_at notes s x < h.search.now.basis.columns
  pub fails : passing h.search.now (alone s x) h.q (blocking_at notes s x) ≡ false

abbrev pub Decided : Place → ℕ → ℕ → Type 0
Decided h w z = (s : ℕ) → has w s ≡ true → (x : Sign) → Dominated h.search.now z (alone s x)

pub record Tried (h : Place) (w : ℕ) (notes : List Note) : Type 0 where
  pub long : length notes ≡ max_columns
  pub decided : (z : ℕ) → Decided h w z
  pub blocked : (s : ℕ) → has w s ≡ true → (x : Sign) → Blocked h notes s x

pub record Found (h : Place) (w y : ℕ) : Type 0 where
  pub early : y < h.at * span + first_pair
  pub late : h.at * span ≤ y
  pub incumbent : Incumbent h.search.now y
  pub decided : Decided h w y

abbrev pub Best : Place → ℕ → List Note → Option ℕ → Type 0
Best h w notes None = Tried h w notes
Best h w notes (Some y) = Found h w y

pub record Singled (h : Place) (w : ℕ) (notes : List Note) (r : Option ℕ) : Type 0 where
  pub noted : Noted h.search.now.basis.columns notes
  pub best : Best h w notes r

-- ---- its pairs
pub record Led (h : Place) (notes : List Note) (l : Lead) : Type 0 where
  pub long : length notes ≡ max_columns
  pub inside : l.s < h.search.now.basis.vectors
  pub zero_before : ZeroBefore h.search.now l.s h.at
  pub blocked : Blocked h notes l.s l.sign

pub record Others (h : Place) (s w : ℕ) : Type 0 where
  pub unseen : Unseen h.search.now w h.at
  pub apart : has w s ≡ false

pub record Paired (h : Place) (o : Move) : Type 0 where
  pub s : ℕ
  pub x : Sign
  pub t : ℕ
  pub y : Sign
  pub is : o ≡ both s x t y
  pub s_inside : s < h.search.now.basis.vectors
  pub t_inside : t < h.search.now.basis.vectors
  pub apart : t ≡ s → ⊥
  pub s_zero : ZeroBefore h.search.now s h.at
  pub t_zero : ZeroBefore h.search.now t h.at
