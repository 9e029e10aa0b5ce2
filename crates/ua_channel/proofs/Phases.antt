-- Where a server's channel stands behind one frame.
use Rattle.std.proofs.Common.{◌≡◌, ℕ, ◌+◌, ◌<◌, Bool, true, false, List, [], ◌∷◌, Option, Some, None, refl, sym, ◌∙◌, ap, subst, arith, map}
use Rattle.std.specs.Prelude.{if◌then◌else◌}
use Rattle.std.proofs.lemmas.Bool.{ne_eqb}
use Rattle.ua_frame.specs.declared.hello.Hello.{Hello}
use Rattle.ua_frame.specs.declared.limits.Limits.{Limits}
use Rattle.ua_opening.specs.declared.secure_channel.OpenRequest.{OpenRequest}
use Rattle.ua_chunk.specs.Delivered.{given}
use Rattle.ua_chunk.specs.Item.{Item}
use Rattle.ua_chunk.specs.Item.Item.{Whole, Aborted}
use Rattle.ua_channel.specs.declared.server.Phase.{Phase}
use Rattle.ua_channel.specs.declared.server.Phase.TheVariants.{Waiting, Greeted, Open, Done}
use Rattle.ua_channel.specs.Agreement.{Agreement}
use Rattle.ua_channel.specs.Content.{Content}
use Rattle.ua_channel.specs.Content.Content.{Greets, Acks, Fails, Opens, Sends, Closes, Nothing}
use Rattle.ua_channel.specs.Received.{Received, after}
use Rattle.ua_channel.specs.ServerRules.{opening_gate, running_gate, gate_greeted, server_gate_behind, server_gate}
use Rattle.ua_channel.specs.ServerStands.{InServerPhase}
use Rattle.ua_channel.specs.inside.ServerFrames.{phase_gate}
use Rattle.ua_channel.specs.ServerTold.{Told, request_of, opened_by, told_under, issued, server_tells}
use Rattle.ua_channel.specs.ServerTold.Told.{Agreed, Opened, Closed}

-- ---- gates

pub greeted_by : (size count : ℕ) → 0 < count → gate_greeted size count ≡ running_gate size
greeted_by size count some = ap (λ (b : Bool). if b then opening_gate size else running_gate size) (ne_eqb count 0 (λ e. omega (arith, e, some)))

-- the gate of a phase is the one for what comes next
pub gate_is : (limits : Limits) (p : Phase) (before : Received) → InServerPhase limits p before → phase_gate p ≡ server_gate limits before
gate_is limits Waiting before h = sym (ap (server_gate limits) h)
gate_is limits (Greeted a) before h =
    ap (λ (x : Agreement). opening_gate x.ack.receive_buffer_size) h.agreement_is ∙ sym (ap (server_gate limits) h.before_is)
gate_is limits (Open r) before h =
    ap (λ (x : Agreement). running_gate x.ack.receive_buffer_size) h.agreement_is
    ∙ (sym (greeted_by _ (issued before) (subst (λ (n : ℕ). 0 < n) (sym h.issued_is) h.some))
    ∙ sym (ap (λ (o : Option Hello). server_gate_behind limits o (issued before)) h.hello_is))
gate_is limits Done before h = absurd h

-- ---- whether a frame was the last

-- a frame that tells nothing isn't the last
pub silent_open : (limits : Limits) (before : Received) (c : Content) → server_tells limits before c ≡ [] → before.closed ≡ false
    → (after before c).closed ≡ false
silent_open limits before (Greets hello) e h = h
silent_open limits before (Acks ack) e h = h
silent_open limits before (Fails error) e h = h
silent_open limits before (Opens o) e h = h
silent_open limits before (Sends c) e h = h
silent_open limits before (Closes c) e h = absurd cc
silent_open limits before Nothing e h = h

one_told : (s t : Told) → s ∷ [] ≡ t ∷ [] → s ≡ t
one_told s t e = cc

-- nor is one that tells something else than a close
pub telling_open : (limits : Limits) (before : Received) (c : Content) (t : Told) → server_tells limits before c ≡ t ∷ [] → (Closed ≡ t → ⊥)
    → before.closed ≡ false → (after before c).closed ≡ false
telling_open limits before (Greets hello) t e other h = h
telling_open limits before (Acks ack) t e other h = h
telling_open limits before (Fails error) t e other h = h
telling_open limits before (Opens o) t e other h = h
telling_open limits before (Sends c) t e other h = h
telling_open limits before (Closes c) t e other h = absurd (other (one_told Closed t e))
telling_open limits before Nothing t e other h = h

hello_never : (limits : Limits) (before : Received) (hello : Option Hello) → server_tells limits before (Greets hello) ≡ Closed ∷ [] → ⊥
hello_never limits before None e = absurd cc
hello_never limits before (Some h) e = let x = one_told (Agreed _) Closed e in cc

opened_never : (token : ℕ) (numbers : Option (ℕ × ℕ)) (request : Option OpenRequest) → opened_by token numbers request ≡ Closed ∷ [] → ⊥
opened_never token (Some numbers) (Some request) e = let x = one_told (Opened _ _ _ _) Closed e in cc
opened_never token (Some numbers) None e = absurd cc
opened_never token None request e = absurd cc

item_never : (token : ℕ) (i : Item) → told_under token i ≡ Closed → ⊥
item_never token (Whole id octets) e = cc
item_never token (Aborted id code reason) e = cc

head_is : (x y : Told) (xs ys : List Told) → x ∷ xs ≡ y ∷ ys → x ≡ y
head_is x y xs ys e = cc

items_never : (token : ℕ) (items : List Item) → map (told_under token) items ≡ Closed ∷ [] → ⊥
items_never token [] e = absurd cc
items_never token (i ∷ is) e = item_never token i (head_is (told_under token i) Closed (map (told_under token) is) [] e)

-- a close is the last
pub closing : (limits : Limits) (before : Received) (c : Content) → server_tells limits before c ≡ Closed ∷ [] → (after before c).closed ≡ true
closing limits before (Greets hello) e = absurd (hello_never limits before hello e)
closing limits before (Acks ack) e = absurd cc
closing limits before (Fails error) e = absurd cc
closing limits before (Opens o) e = absurd (opened_never (issued before + 1) o.numbers (request_of o) e)
closing limits before (Sends c) e = absurd (items_never c.token (given before.messages c) e)
closing limits before (Closes c) e = refl
closing limits before Nothing e = absurd cc
