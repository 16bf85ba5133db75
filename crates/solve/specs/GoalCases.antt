-- Document 02, (v): cases of a low and a high goal, as one table of the definitions.
--   curve lo low high   one column without rows, with bounds lo to 100 and these goals
--   tied_curves     v1 = v2, bounds 1..10, the first with the goals 1000 and 4000, the second with 5000 twice
--   two_goals_text, two_goals_listing   a text with two goals that differ, and its listing
--   refused_goal    refusal 5, with both lists as before
--   GoalCases       the cases, one to a field
-- Assumes nothing.
use Rattle.std.specs.Prelude.{◌≡◌, List, [], ◌∷◌, ℕ, ℤ, pos, negsuc, Ok, Err}
use Rattle.whole.specs.Lists.{zeros}
use Rattle.problem.specs.Checks.{Posed}
use Rattle.problem.specs.declared.Refusal.TheVariants.{Bound, Goal}
use Rattle.problem.specs.declared.Verdict.TheVariants.{Fitted}
use Rattle.engine.specs.Assign.{posed_by}
use Rattle.report.specs.Listing.{counts_of}
use Rattle.solve.specs.Cases.{Shown, assigned, gives, seated_of}
use Rattle.solve.specs.Program.{printed}

abbrev pub curve : ℤ → ℤ → ℤ → Posed
curve lo low high =
    posed_by (record { columns = 1; rows = 0; limit = 10000 }) [] [] (lo ∷ []) (pos 100 ∷ []) (low ∷ []) (high ∷ []) (zeros 1) (zeros 1)

abbrev pub tied_curves : Posed
tied_curves =
    posed_by (record { columns = 2; rows = 1; limit = 10000 }) (pos 1 ∷ negsuc 0 ∷ []) (pos 0 ∷ []) (pos 1 ∷ pos 1 ∷ []) (pos 10 ∷ pos 10 ∷ [])
    (pos 1000 ∷ pos 5000 ∷ []) (pos 4000 ∷ pos 5000 ∷ []) (zeros 2) (zeros 2)

-- one curve with the goals 1000 and 4000, no row and no volume
abbrev pub two_goals_text : List ℕ
two_goals_text =
    49 ∷ 10 ∷ 49 ∷ 32 ∷ 57 ∷ 57 ∷ 32 ∷ 49 ∷ 48 ∷ 48 ∷ 48 ∷ 32 ∷ 52 ∷ 48 ∷ 48 ∷ 48 ∷ 10 ∷ 48 ∷ 10 ∷ 48 ∷ 10 ∷ []

abbrev pub two_goals_listing : List ℕ
two_goals_listing = 70 ∷ 73 ∷ 84 ∷ 84 ∷ 69 ∷ 68 ∷ 32 ∷ 48 ∷ 32 ∷ 48 ∷ 10 ∷ 49 ∷ 32 ∷ 50 ∷ 32 ∷ 49 ∷ 10 ∷ []

abbrev pub refused_goal : Shown
refused_goal = gives (Err Goal) (pos 7 ∷ []) (7 ∷ [])

pub record GoalCases : Type 0 where
  -- the root of 1,000 × 4,000 is 2,000: not the low goal, nor the high one, nor their mean
  pub between : assigned (curve (pos 1) (pos 1000) (pos 4000)) ≡ gives (Ok (Fitted (counts_of 0 0))) (pos 2 ∷ []) (1 ∷ [])
  -- 2 × 3 × 1,000,000 = 2,000 × 3,000, so that it is 2
  pub edge : assigned (curve (pos 1) (pos 2000) (pos 3000)) ≡ gives (Ok (Fitted (counts_of 0 0))) (pos 2 ∷ []) (1 ∷ [])
  -- "The ratio is the larger of 1000v/low and high/1000v": at 2 they are 2 and 5/2, and at 3 the first one's is 3, which is not below 5/2
  pub seats : seated_of tied_curves ≡ Ok (pos 2 ∷ pos 2 ∷ [])
  pub tied : assigned tied_curves ≡ gives (Ok (Fitted (counts_of 0 0))) (pos 2 ∷ pos 2 ∷ []) (1 ∷ 1 ∷ [])
  -- "both 0 or both set, low at most high", and what 5 was before
  pub crossed : assigned (curve (pos 1) (pos 4000) (pos 1000)) ≡ refused_goal
  pub high_alone : assigned (curve (pos 1) (pos 0) (pos 4000)) ≡ refused_goal
  pub low_alone : assigned (curve (pos 1) (pos 4000) (pos 0)) ≡ refused_goal
  pub beyond : assigned (curve (pos 1) (pos 1000) (pos 1000000001)) ≡ refused_goal
  pub negative : assigned (curve (pos 1) (negsuc 0) (pos 1000)) ≡ refused_goal
  pub lower_zero : assigned (curve (pos 0) (pos 1000) (pos 4000)) ≡ refused_goal
  -- no goal asks nothing of the lower bound
  pub none : assigned (curve (pos 0) (pos 0) (pos 0)) ≡ gives (Ok (Fitted (counts_of 0 0))) (pos 0 ∷ []) (1 ∷ [])
  -- a text: "1", "1 99 1000 4000", "0", "0"; listing: "FITTED 0 0", "1 2 1"
  pub text : printed two_goals_text ≡ two_goals_listing
  -- 4 comes first
  pub bound_first : assigned (curve (pos 101) (pos 4000) (pos 1000)) ≡ gives (Err Bound) (pos 7 ∷ []) (7 ∷ [])
