-- Document 02, (i): the next step of a standing list, shown before it is taken.
--   Next                a step's part, column and move (declared in src/); `next` makes one
--   Seen                what is told: a refusal, that no move improves, or a step
--   Shown               what is told, the rounds of the tableau, and what the tableau, the list after and the strides then hold; `shown` makes one of
--                       the five
--   with_limit k P      the problem P with the step limit k for the one held beside it
--   list_length n a b   of two lists that need n numbers, a length that is n exactly if both are
--   lent_beside n v B   with it the lengths of the buffers B
--   unshown ..          a refusal, with both lists as before; on_cause, by what the checks find
--   told, after         of a step: what is told of it, and the list after it
--   shown_on P T N v    the next step of the list v over the basis N of the form T
--   preview_fit P v B   past the checks
--   preview P v B       the preview of the problem P and the standing list v, which is only read; in B the interval list is the list after
-- What is promised of it:
--   copied v B          the buffers B with "a copy of the list" v
--   ShowsStep x p       x shows a step of part p
--   Equals x d before   what is shown, x, is what a Continue has done, d; the list after held `before`
--   EqualsContinue, PreviewContinue   "It equals Continue with limit 1 on a copy of the list, refusals included.", where the list after has n
--                       numbers; PreviewRoom, elsewhere it is turned back with 1 or 2, all as before
--   NamesStep, PreviewStep   what is named is the next step of document 01
--   AtRest, PreviewRest   what "no move improves" says
--   LimitUnused, PreviewLimit   a limit held beside the problem plays no part, so that 6 is never given
-- The theorems are `preview_continue`, `preview_room`, `preview_step`, `preview_rest` and `preview_limit`, in proofs/Previews.
-- Assumes nothing.
use Rattle.std.specs.Prelude.{◌≡◌, ◌↔◌, true, false, cond, List, ℕ, eqb, ℤ, length, Option, Some, None, Result, Ok, Err}
use Rattle.whole.specs.Lists.{zeros}
use Rattle.lattice.specs.Rows.{flat}
use Rattle.problem.specs.Answers.{no_steps, answer_counts, is_verdict}
use Rattle.problem.specs.Limits.{max_columns, max_rows}
use Rattle.problem.specs.Checks.{Posed, Check, sizes_fit, first_cause}
use Rattle.problem.specs.declared.Lent.{Lent}
use Rattle.problem.specs.declared.Refusal.{Refusal}
use Rattle.problem.specs.declared.Refusal.TheVariants.{Size, Length, Limit, Elimination, Standing}
use Rattle.tableau.specs.RightSide.{basis}
use Rattle.settling.specs.declared.Move.{Move}
use Rattle.settling.specs.declared.Part.{Part}
use Rattle.settling.specs.declared.Step.{Step}
use Rattle.settling.specs.Moves.{moved}
use Rattle.settling.specs.Settle.{counted}
use Rattle.settling.specs.Steps.{part_of, step, next_step}
use Rattle.settling.specs.Strides.{strides}
use Rattle.settling.specs.Verdicts.{Improving, NoMoveImproves}
use Rattle.engine.specs.Assign.{Buffers, buffers, Done, n, m, columns, rounds_of, stands, formed, continue}
use Rattle.engine.specs.Outcomes.{basis_left}
use Rattle.engine.specs.declared.preview.Next.{Next}

abbrev pub Seen : Type 0
Seen = Result (Option Next) Refusal

abbrev pub next : Part → ℕ → Move → Next
next p i o = record { part = p; column = i; o = o }

pub record Shown : Type 0 where
  pub seen : Seen
  pub rounds : ℕ
  pub tableau : List ℤ
  pub after : List ℤ
  pub strides : List ℕ

abbrev pub shown : Seen → ℕ → List ℤ → List ℤ → List ℕ → Shown
shown seen rounds tableau after strides = record { seen = seen; rounds = rounds; tableau = tableau; after = after; strides = strides }

abbrev pub with_limit : ℕ → Posed → Posed
with_limit k P = record {
  problem = record { columns = n P; rows = m P; limit = k };
  coefficients = P.coefficients;
  rights = P.rights;
  lower = P.lower;
  upper = P.upper;
  low = P.low;
  high = P.high;
  given = P.given;
  ideals = P.ideals;
}

-- 2: both lists have n numbers. One length stands for both: the list after's where the standing list has n, and else the standing list's
abbrev pub list_length : ℕ → ℕ → ℕ → ℕ
list_length n standing after = cond (eqb standing n) after standing

abbrev pub lent_beside : ℕ → List ℤ → Buffers → Lent
lent_beside n v B = record {
  tableau = length B.tableau;
  values = list_length n (length v) (length B.values);
  strides = length B.strides;
}

-- ---- what is left: the table "Turned back"
-- T is what the tableau then holds
abbrev pub unshown : Refusal → List ℤ → Buffers → Shown
unshown why T B = shown (Err why) 0 T B.values B.strides

abbrev pub on_cause : Check → Buffers → Shown → Shown
on_cause (Ok u) B x = x
on_cause (Err why) B x = unshown why B.tableau B

-- ---- "the preview names the part, the column, the move .."
abbrev pub told : Part → Option Step → Option Next
told p None = None
told p (Some s) = Some (next p s.column s.o)

-- ".. and the list after it, or says that no move improves": then it is the standing list
abbrev pub after : List (List ℤ) → List ℤ → Option Step → List ℤ
after N v None = v
after N v (Some s) = moved N s.o v

abbrev pub shown_on : Posed → List (List ℤ) → List (List ℤ) → List ℤ → Shown
shown_on P T N v =
    shown (Ok (told (part_of (columns P) v) (next_step (columns P) N v))) (rounds_of P) (flat T) (after N v (next_step (columns P) N v))
    (strides (n P) N)

-- 10, then 7
abbrev pub preview_fit : Posed → List ℤ → Buffers → Shown
preview_fit P v B =
    cond (stands P v)
    (cond (formed P).over (unshown Elimination (zeros (length B.tableau)) B) (shown_on P (formed P).table (basis (m P) (formed P).table) v))
    (unshown Standing B.tableau B)

-- "Given a problem and a standing list": 1 to 5 as Continue with limit 1 has them, then the rest
unfoldable pub preview : Posed → List ℤ → Buffers → Shown
preview P v B = on_cause (first_cause (with_limit 1 P) (lent_beside (n P) v B)) B (preview_fit P v B)

-- ---- "It equals Continue with limit 1 on a copy of the list, refusals included."
abbrev pub copied : List ℤ → Buffers → Buffers
copied v B = buffers B.tableau v B.strides

pub record ShowsStep (x : Shown) (p : Part) : Type 0 where
  pub column : ℕ
  pub move : Move
  pub is : x.seen ≡ Ok (Some (next p column move))

pub record Equals (x : Shown) (d : Done) (before : List ℤ) : Type 0 where
  -- "refusals included": it is turned back exactly when Continue is, by the same refusal
  pub refused : (why : Refusal) → (x.seen ≡ Err why) ↔ (d.answer ≡ Err why)
  -- no move improves exactly when Continue has a verdict without a step
  pub rests : (x.seen ≡ Ok None) ↔ ((is_verdict d.answer ≡ true) × (answer_counts d.answer ≡ no_steps))
  -- a step is shown exactly when Continue takes one, and of that part
  pub steps : (p : Part) → ShowsStep x p ↔ (answer_counts d.answer ≡ counted p no_steps)
  -- the rounds are Continue's, 0 with a refusal
  pub rounds : x.rounds ≡ d.rounds
  -- the tableau and the strides are those that Continue leaves, and the list after is the list that it leaves in place of the copy
  pub tableau : x.tableau ≡ d.tableau
  pub strides : x.strides ≡ d.strides
  pub after : is_verdict d.answer ≡ true → x.after ≡ d.values
  -- with a refusal the list after is as before
  pub kept : is_verdict d.answer ≡ false → x.after ≡ before

abbrev pub EqualsContinue : Posed → List ℤ → Buffers → Type 0
EqualsContinue P v B = Equals (preview P v B) (continue (with_limit 1 P) (copied v B)) B.values

abbrev pub PreviewContinue : Type 0
PreviewContinue = (P : Posed) (v : List ℤ) (B : Buffers) → length B.values ≡ n P → EqualsContinue P v B

-- 2, unless 1 holds
abbrev pub PreviewRoom : Type 0
PreviewRoom =
    (P : Posed) (v : List ℤ) (B : Buffers) → (length B.values ≡ n P → ⊥)
    → preview P v B ≡ unshown (cond (sizes_fit max_columns max_rows P.problem) Length Size) B.tableau B

-- ---- what is named
pub record NamesStep (P : Posed) (v : List ℤ) (x : Shown) (p : Part) (i : ℕ) (o : Move) : Type 0 where
  pub part : part_of (columns P) v ≡ p
  -- "A step takes the first column with an improving move, and its first such move, once."
  pub step : next_step (columns P) (basis_left P) v ≡ Some (step i o)
  pub improving : Improving p (columns P) (basis_left P) v i o
  pub after : x.after ≡ moved (basis_left P) o v

abbrev pub PreviewStep : Type 0
PreviewStep =
    (P : Posed) (v : List ℤ) (B : Buffers) (p : Part) (i : ℕ) (o : Move) → (preview P v B).seen ≡ Ok (Some (next p i o))
    → NamesStep P v (preview P v B) p i o

pub record AtRest (P : Posed) (v : List ℤ) (x : Shown) : Type 0 where
  pub none : NoMoveImproves (columns P) (basis_left P) v
  pub after : x.after ≡ v

abbrev pub PreviewRest : Type 0
PreviewRest = (P : Posed) (v : List ℤ) (B : Buffers) → (preview P v B).seen ≡ Ok None → AtRest P v (preview P v B)

-- ---- the limit
pub record LimitUnused (P : Posed) (v : List ℤ) (B : Buffers) : Type 0 where
  pub same : (k : ℕ) → preview (with_limit k P) v B ≡ preview P v B
  pub never : (preview P v B).seen ≡ Err Limit → ⊥

abbrev pub PreviewLimit : Type 0
PreviewLimit = (P : Posed) (v : List ℤ) (B : Buffers) → LimitUnused P v B
