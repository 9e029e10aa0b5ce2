-- How much each end holds.
use Rattle.std.proofs.Common.{◌≡◌, ◌≤◌, Bool, true, false, ◌||◌, List, [], ◌∷◌, ◌++◌, Option, Some, None, refl, arith, ltb}
use Rattle.std.specs.List.{AllByRecursion, flat_map}
use Rattle.std.proofs.lemmas.Bool.{ltb-false}
use Rattle.ua_builtin.specs.Reasons.{first_reason}
use Rattle.ua_frame.specs.After.{AllAfter, AllFrom}
use Rattle.ua_frame.specs.Run.{Fits}
use Rattle.ua_frame.specs.declared.ack.Ack.{Ack}
use Rattle.ua_frame.specs.declared.frame.Frame.{Frame}
use Rattle.ua_frame.specs.declared.hello.Hello.{Hello}
use Rattle.ua_frame.specs.declared.limits.Limits.{Limits}
use Rattle.ua_channel.specs.Asks.{Asking, Placed, asked_before, end_of}
use Rattle.ua_channel.specs.Client.{client_bound_behind}
use Rattle.ua_channel.specs.ClientTable.{client_reasons, client_rules, is_outside}
use Rattle.ua_channel.specs.Content.{Content, content}
use Rattle.ua_channel.specs.Content.Content.{Greets, Acks, Fails, Opens, Sends, Closes, Nothing}
use Rattle.ua_channel.specs.Received.{Received, acks, acks_in, latest_behind, received}
use Rattle.ua_channel.specs.ServerStands.{bound_behind as server_bound}
use Rattle.ua_exchange.specs.Programs.{AreOurs, most_held}

-- ---- a server

pub server_most : (limits : Limits) (hello : Option Hello) → AreOurs limits → server_bound limits hello ≤ most_held
server_most limits None ours = omega arith
server_most limits (Some h) ours = omega (arith, ours.receives, ours.takes_octets)

-- ---- a client

-- a server of this Acknowledge, if there is one, sends no larger frames than a client with these limits takes
abbrev SendsWithin : Limits → Option Ack → Type 0
SendsWithin limits None = Unit {0}
SendsWithin limits (Some a) = a.send_buffer_size ≤ limits.receive_buffer_size

fourth_false : (a b c d : Bool) → (a || b || c || d) ≡ false → d ≡ false
fourth_false true b c d e = absurd cc
fourth_false false true c d e = absurd cc
fourth_false false false true d e = absurd cc
fourth_false false false false d e = e

sizes_within : (limits : Limits) (a : Ack) → is_outside limits a ≡ false → SendsWithin limits (Some a)
sizes_within limits a e =
    ltb-false limits.receive_buffer_size a.send_buffer_size
    (fourth_false (ltb a.receive_buffer_size 8192) (ltb a.send_buffer_size 8192) (ltb limits.send_buffer_size a.receive_buffer_size)
    (ltb limits.receive_buffer_size a.send_buffer_size) e)

-- the second of a table of reasons, if there is one, does not hold
abbrev SecondFails : {A : Type 0} → List (A × Bool) → Type 0
SecondFails [] = Unit {0}
SecondFails (r ∷ []) = Unit {0}
SecondFails (r ∷ (s ∷ ts)) = s.1 ≡ false

second_fails : {A : Type 0} (rs : List (A × Bool)) → first_reason rs ≡ None → SecondFails rs
second_fails [] e = tt
second_fails (r ∷ []) e = tt
second_fails ((x, true) ∷ (s ∷ ts)) e = absurd cc
second_fails ((x, false) ∷ ((y, true) ∷ ts)) e = absurd cc
second_fails ((x, false) ∷ ((y, false) ∷ ts)) e = refl

-- what a client takes that is an Acknowledge
taken_within : (limits : Limits) (before : Received) (asked : List Asking) (c : Content) → first_reason (client_reasons limits before asked c) ≡ None
    → AllByRecursion (λ (a : Ack). SendsWithin limits (Some a)) (acks_in c)
taken_within limits before asked (Greets hello) e = tt
taken_within limits before asked (Acks None) e = tt
taken_within limits before asked (Acks (Some a)) e = (sizes_within limits a (second_fails (client_reasons limits before asked (Acks (Some a))) e), tt)
taken_within limits before asked (Fails error) e = tt
taken_within limits before asked (Opens o) e = tt
taken_within limits before asked (Sends chunk) e = tt
taken_within limits before asked (Closes chunk) e = tt
taken_within limits before asked Nothing e = tt

all-append : {X : Type 0} (P : X → Type 0) (xs ys : List X) → AllByRecursion P xs → AllByRecursion P ys → AllByRecursion P (xs ++ ys)
all-append P [] ys these those = those
all-append P (x ∷ xs) ys these those = (these.0, all-append P xs ys these.1 those)

acks_within : (limits : Limits) (asks : List Placed) (start frames : List Frame) → AllFrom (Fits (client_rules limits asks)) start frames
    → AllByRecursion (λ (a : Ack). SendsWithin limits (Some a)) (flat_map (λ (f : Frame). acks_in (content f)) frames)
acks_within limits asks start [] good = tt
acks_within limits asks start (f ∷ fs) good =
    all-append (λ (a : Ack). SendsWithin limits (Some a)) (acks_in (content f)) (flat_map (λ (g : Frame). acks_in (content g)) fs)
    (taken_within limits (received start) (asked_before (end_of start f) asks) (content f) good.0.accepted)
    (acks_within limits asks (start ++ f ∷ []) fs good.1)

latest_within : (limits : Limits) (o : Option Ack) (found : List Ack) → SendsWithin limits o → AllByRecursion (λ (a : Ack). SendsWithin limits (Some a)) found
    → SendsWithin limits (latest_behind o found)
latest_within limits o [] first all = first
latest_within limits o (a ∷ found) first all = latest_within limits (Some a) found all.0 all.1

ack_within : (limits : Limits) (asks : List Placed) (frames : List Frame) → AllAfter (Fits (client_rules limits asks)) frames
    → SendsWithin limits (received frames).ack
unfolding AllAfter received acks
ack_within limits asks frames good = latest_within limits None (acks frames) tt (acks_within limits asks [] frames good)

most_behind : (limits : Limits) (o : Option Ack) → AreOurs limits → SendsWithin limits o → client_bound_behind limits o ≤ most_held
most_behind limits None ours within = omega arith
most_behind limits (Some a) ours within = omega (arith, ours.receives, ours.takes_octets, within)

pub client_most : (limits : Limits) (asks : List Placed) (frames : List Frame) → AreOurs limits → AllAfter (Fits (client_rules limits asks)) frames
    → client_bound_behind limits (received frames).ack ≤ most_held
client_most limits asks frames ours good = most_behind limits (received frames).ack ours (ack_within limits asks frames good)
