-- The replies to a group of calls, as they come.
use Rattle.std.specs.Prelude.{◌++◌, ℕ, zero, suc, List, [], ◌∷◌, map, take, drop, Option, Some, None}
use Rattle.ua_client.specs.declared.reply.Reply.{Reply}

-- slots, and empty ones behind them up to this many
abbrev pub filled_up : ℕ → List (Option Reply) → List (Option Reply)
filled_up zero slots = slots
filled_up (suc n) [] = None ∷ filled_up n []
filled_up (suc n) (slot ∷ slots) = slot ∷ filled_up n slots

-- the replies that a caller had, and a slot for the reply to each call of a group
pub record GroupReplies : Type 0 where
  pub had : List Reply
  pub slots : List (Option Reply)

-- the first of these replies are those that the caller had, and the others came in order; behind
-- them come these slots
abbrev pub group_replies : List Reply → ℕ → List (Option Reply) → ℕ → GroupReplies
group_replies replies had late count = record {
  had = take had replies;
  slots = filled_up count (map Some (drop had replies) ++ late);
}
