-- What turns send and tell, and what comes of them, with one turn more.
use Rattle.std.proofs.Common.{◌≡◌, ℕ, List, [], ◌∷◌, ◌++◌, Option, refl, sym, ◌∙◌, ap, append-nil, append_assoc}
use Rattle.ua_builtin.specs.declared.date_time.DateTime.{DateTime}
use Rattle.ua_frame.specs.declared.ack.Ack.{Ack}
use Rattle.ua_frame.specs.declared.limits.Limits.{Limits}
use Rattle.ua_chunk.specs.declared.lane.Lane.{Lane}
use Rattle.ua_channel.specs.ClientAsks.{call_lane}
use Rattle.ua_channel.specs.ServerTold.{Told}
use Rattle.ua_services.specs.declared.request.Request.{Request}
use Rattle.ua_server.specs.State.{State}
use Rattle.ua_client.specs.declared.reply.Reply.{Reply}
use Rattle.ua_loopback.specs.Accepted.{held_behind, tokens_held}
use Rattle.ua_loopback.specs.Beginning.{Beginning}
use Rattle.ua_loopback.specs.Replies.{lane_back_by_token, turn_replies, turn_state, replies_to_turns, turns_state}
use Rattle.ua_loopback.specs.Sends.{turn_number, turn_octets, turns_number, turns_octets}
use Rattle.ua_loopback.specs.Turns.{id_behind_turn, ids_behind, token_behind_turn, tokens_behind, turn_told, turns_told}

-- ---- what they tell

pub told_push : (token id : ℕ) (turns : List (Option (List Request))) (t : Option (List Request))
    → turns_told token id (turns ++ t ∷ []) ≡ turns_told token id turns ++ turn_told (tokens_behind token turns) (ids_behind id turns) t
told_push token id [] t = append-nil (turn_told token id t)
told_push token id (u ∷ us) t =
    ap (λ (ts : List Told). turn_told token id u ++ ts) (told_push (token_behind_turn token u) (id_behind_turn id u) us t)
    ∙ sym (append_assoc (turn_told token id u) (turns_told (token_behind_turn token u) (id_behind_turn id u) us)
    (turn_told (tokens_behind (token_behind_turn token u) us) (ids_behind (id_behind_turn id u) us) t))

pub tokens_push : (token : ℕ) (turns : List (Option (List Request))) (t : Option (List Request))
    → tokens_behind token (turns ++ t ∷ []) ≡ token_behind_turn (tokens_behind token turns) t
tokens_push token [] t = refl
tokens_push token (u ∷ us) t = tokens_push (token_behind_turn token u) us t

pub ids_push : (id : ℕ) (turns : List (Option (List Request))) (t : Option (List Request))
    → ids_behind id (turns ++ t ∷ []) ≡ id_behind_turn (ids_behind id turns) t
ids_push id [] t = refl
ids_push id (u ∷ us) t = ids_push (id_behind_turn id u) us t

pub held_push : (held : ℕ) (turns : List (Option (List Request))) (t : Option (List Request))
    → tokens_held held (turns ++ t ∷ []) ≡ held_behind (tokens_held held turns) t
held_push held [] t = refl
held_push held (u ∷ us) t = held_push (held_behind held u) us t

-- ---- what is sent

pub octets_push : (a : Ack) (channel : ℕ) (moment : DateTime) (token number id : ℕ) (turns : List (Option (List Request))) (t : Option (List Request))
    → turns_octets a channel moment token number id (turns ++ t ∷ [])
    ≡ turns_octets a channel moment token number id turns ++ turn_octets (call_lane a channel (tokens_behind token turns))
    (turns_number a channel token number turns) (ids_behind id turns) moment t
octets_push a channel moment token number id [] t = append-nil (turn_octets (call_lane a channel token) number id moment t)
octets_push a channel moment token number id (u ∷ us) t =
    let lane : Lane = call_lane a channel token in
    let one : List ℕ = turn_octets lane number id moment u in
    let k : ℕ = token_behind_turn token u in
    let n : ℕ = turn_number lane number u in
    let i : ℕ = id_behind_turn id u in
    ap (λ (o : List ℕ). one ++ o) (octets_push a channel moment k n i us t)
    ∙ sym (append_assoc one (turns_octets a channel moment k n i us)
    (turn_octets (call_lane a channel (tokens_behind k us)) (turns_number a channel k n us) (ids_behind i us) moment t))

pub number_push : (a : Ack) (channel token number : ℕ) (turns : List (Option (List Request))) (t : Option (List Request))
    → turns_number a channel token number (turns ++ t ∷ []) ≡ turn_number (call_lane a channel (tokens_behind token turns))
    (turns_number a channel token number turns) t
number_push a channel token number [] t = refl
number_push a channel token number (u ∷ us) t = number_push a channel (token_behind_turn token u) (turn_number (call_lane a channel token) number u) us t

-- ---- what comes of them

pub state_push : (s : State) (moments : ℕ → DateTime) (n : ℕ) (turns : List (Option (List Request))) (t : Option (List Request))
    → turns_state s moments n (turns ++ t ∷ []) ≡ turn_state (turns_state s moments n turns) moments (ids_behind n turns) t
state_push s moments n [] t = refl
state_push s moments n (u ∷ us) t = state_push (turn_state s moments n u) moments (id_behind_turn n u) us t

pub replies_push : (b : Beginning) (client : Limits) (url : Option (List ℕ)) (s : State) (n token : ℕ) (turns : List (Option (List Request)))
    (t : Option (List Request))
    → replies_to_turns b client url s n token (turns ++ t ∷ []) ≡ replies_to_turns b client url s n token turns
    ++ turn_replies (lane_back_by_token b client url (tokens_behind token turns)) (turns_state s b.moments n turns) b.moments (ids_behind n turns) t
replies_push b client url s n token [] t = append-nil (turn_replies (lane_back_by_token b client url token) s b.moments n t)
replies_push b client url s n token (u ∷ us) t =
    let one : List (Option Reply) = turn_replies (lane_back_by_token b client url token) s b.moments n u in
    let next : State = turn_state s b.moments n u in
    let k : ℕ = token_behind_turn token u in
    let i : ℕ = id_behind_turn n u in
    ap (λ (os : List (Option Reply)). one ++ os) (replies_push b client url next i k us t)
    ∙ sym (append_assoc one (replies_to_turns b client url next i k us)
    (turn_replies (lane_back_by_token b client url (tokens_behind k us)) (turns_state next b.moments i us) b.moments (ids_behind i us) t))
