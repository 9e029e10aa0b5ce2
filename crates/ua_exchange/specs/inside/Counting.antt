-- How the renewals are found that are refused, since too many tokens count as held: operations are
-- counted one by one.
use Rattle.std.specs.Prelude.{◌≡◌, ℕ, ◌+◌, nat_le, Bool, true, false, length, take, List, [], ◌∷◌, ◌++◌, Option, Some, None}
use Rattle.ua_frame.specs.After.{AllAfter}
use Rattle.ua_channel.specs.ClientAsks.{most_tokens}
use Rattle.ua_loopback.specs.Accepted.{tokens_held}
use Rattle.ua_exchange.specs.Accepted.{last_calls, tokens_counted}
use Rattle.ua_exchange.specs.Turns.{served_turns}
use Rattle.ua_exchange.specs.declared.turn.Turn.{Turn}
use Rattle.ua_exchange.specs.declared.turn.Turn.TheVariants.{Ask, Renew}

-- they are all requests
abbrev pub AreCalls : List Turn → Type 0
AreCalls [] = Unit {0}
AreCalls (Ask m ∷ ts) = AreCalls ts
AreCalls (Renew ∷ ts) = ⊥

-- this many operations at the end of these are requests; before those a client holds a token for
-- each of this many renewals, and one
pub record CountsLast (before : List Turn) (renewals calls : ℕ) : Type 0 where
  pub front : List Turn
  pub last : List Turn
  pub parts : before ≡ front ++ last
  pub are_calls : AreCalls last
  pub calls_are : calls ≡ length last
  pub no_more : last_calls front ≡ []
  pub held_is : tokens_held 1 (served_turns front) ≡ renewals + 1

-- the operation is a renewal after these that is refused since too many tokens count as held
abbrev pub is_crowded : List Turn → Turn → Bool
is_crowded before (Ask m) = false
is_crowded before Renew = nat_le most_tokens (tokens_counted before)

-- no renewal among these operations is refused since too many tokens count as held
abbrev pub HaveRoom : List Turn → Type 0
HaveRoom turns = AllAfter (λ (before : List Turn) (t : Turn). is_crowded before t ≡ false) turns

-- the first that is has this place
pub record FirstCrowded (turns : List Turn) (place : ℕ) : Type 0 where
  pub before : List Turn
  pub turn : Turn
  pub behind : List Turn
  pub parts : turns ≡ before ++ turn ∷ behind
  pub place_is : length before ≡ place
  pub have_room : HaveRoom before
  pub crowded : is_crowded before turn ≡ true

-- the place of the first that is, or none if none is
abbrev pub FindsCrowded : List Turn → Option ℕ → Type 0
FindsCrowded turns (Some place) = FirstCrowded turns place
FindsCrowded turns None = HaveRoom turns

-- the operations before such a place, or all of them
abbrev pub turns_before : Option ℕ → List Turn → List Turn
turns_before (Some place) turns = take place turns
turns_before None turns = turns
