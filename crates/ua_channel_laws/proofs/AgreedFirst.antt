-- What a server agrees to is told first, and once.
use Rattle.std.proofs.Common.{◌≡◌, ℕ, ◌+◌, ◌==◌, Bool, true, false, IsTrue, List, [], ◌∷◌, map, Option, Some, None, option_map, refl, sym, ◌∙◌, ap, subst}
use Rattle.std.specs.Prelude.{if◌then◌else◌}
use Rattle.ua_frame.specs.Hello.{hello_in}
use Rattle.ua_frame.specs.Kinds.{lets_in}
use Rattle.ua_frame.specs.Run.{Fits}
use Rattle.ua_frame.specs.declared.frame.Frame.{Frame}
use Rattle.ua_frame.specs.declared.hello.Hello.{Hello}
use Rattle.ua_frame.specs.declared.kind.Kind.{Kind}
use Rattle.ua_frame.specs.declared.kind.Kind.TheVariants.{Hel, Msg, Opn, Clo}
use Rattle.ua_frame.specs.declared.kind.Kind.TheVariants as kind
use Rattle.ua_frame.specs.declared.limits.Limits.{Limits}
use Rattle.ua_chunk.specs.Delivered.{given}
use Rattle.ua_chunk.specs.Item.{Item}
use Rattle.ua_chunk.specs.Item.Item.{Whole, Aborted}
use Rattle.ua_chunk.specs.Layout.{chunk_in}
use Rattle.ua_chunk.specs.declared.chunk.Chunk.{Chunk}
use Rattle.ua_opening.specs.declared.secure_channel.OpenRequest.{OpenRequest}
use Rattle.ua_channel.specs.Agreement.{Agreement, agreement_of}
use Rattle.ua_channel.specs.Content.{sends, closes, opening_of, content_by, content}
use Rattle.ua_channel.specs.Content.Content.{Greets}
use Rattle.ua_channel.specs.Received.{Received, received}
use Rattle.ua_channel.specs.ServerPlaces.{agreed_by}
use Rattle.ua_channel.specs.ServerRules.{receive_size, opening_gate, running_gate, server_gate_behind, server_gate}
use Rattle.ua_channel.specs.ServerStands.{limits_of, channel_of, rules_of, GoesTelling}
use Rattle.ua_channel.specs.ServerTold.{Told, request_of, opened_by, told_under, issued, server_tells}
use Rattle.ua_channel.specs.ServerTold.Told.{Agreed, Opened, Asked, GaveUp, Closed}
use Rattle.ua_channel.specs.declared.server.ServerChannel.{ServerChannel}
use Rattle.ua_channel.proofs.Frames.{hel_only}
use Rattle.ua_channel_laws.proofs.Replies.{agreed_told, told_is}
use Rattle.ua_channel.proofs.Stepping.{last_of}
use Rattle.ua_channel_laws.proofs.Conversing.{none_named}

-- ---- what a frame of a kind tells

greeted : (limits : Limits) (before : Received) (hello : Option Hello) (e : Told) → server_tells limits before (Greets hello) ≡ e ∷ []
    → (a : Agreement) × (e ≡ Agreed a)
greeted limits before None e t = absurd cc
greeted limits before (Some h) e t = (agreement_of limits h, sym (told_is (Agreed (agreement_of limits h)) e [] t))

opened_not : (token : ℕ) (numbers : Option (ℕ × ℕ)) (request : Option OpenRequest) (a : Agreement) → opened_by token numbers request ≡ Agreed a ∷ [] → ⊥
opened_not token (Some numbers) (Some request) a e = let x = told_is (Opened _ _ _ _) (Agreed a) [] e in cc
opened_not token (Some numbers) None a e = absurd cc
opened_not token None request a e = absurd cc

items_not : (token : ℕ) (items : List Item) (a : Agreement) → map (told_under token) items ≡ Agreed a ∷ [] → ⊥
items_not token [] a e = absurd cc
items_not token (Whole id octets ∷ is) a e = let x = told_is (Asked id token octets) (Agreed a) (map (told_under token) is) e in cc
items_not token (Aborted id code reason ∷ is) a e = let x = told_is (GaveUp id) (Agreed a) (map (told_under token) is) e in cc

sent_not : (limits : Limits) (before : Received) (chunk : Option Chunk) (a : Agreement) → server_tells limits before (sends chunk) ≡ Agreed a ∷ [] → ⊥
sent_not limits before None a e = absurd cc
sent_not limits before (Some c) a e = items_not c.token (given before.messages c) a e

closed_not : (limits : Limits) (before : Received) (chunk : Option Chunk) (a : Agreement) → server_tells limits before (closes chunk) ≡ Agreed a ∷ [] → ⊥
closed_not limits before None a e = absurd cc
closed_not limits before (Some c) a e = let x = told_is Closed (Agreed a) [] e in cc

agreeing_kind : (limits : Limits) (before : Received) (k : Kind) (f : Frame) (a : Agreement) → server_tells limits before (content_by k f) ≡ Agreed a ∷ []
    → k ≡ Hel
agreeing_kind limits before Hel f a e = refl
agreeing_kind limits before kind.Ack f a e = absurd cc
agreeing_kind limits before kind.Err f a e = absurd cc
agreeing_kind limits before Opn f a e = absurd (opened_not (issued before + 1) (opening_of f.body).numbers (request_of (opening_of f.body)) a e)
agreeing_kind limits before Msg f a e = absurd (sent_not limits before (chunk_in f) a e)
agreeing_kind limits before Clo f a e = absurd (closed_not limits before (chunk_in f) a e)

-- ---- by the gate

no_hello : (size : ℕ) (b : Bool) → IsTrue (lets_in (if b then opening_gate size else running_gate size) Hel) → ⊥
no_hello size true t = absurd cc
no_hello size false t = absurd cc

first_frame : (limits : Limits) (before : Received) (f : Frame) (e : Told) → before.hello ≡ None → IsTrue (lets_in (server_gate limits before) f.kind)
    → server_tells limits before (content f) ≡ e ∷ [] → (a : Agreement) × (e ≡ Agreed a)
unfolding content
first_frame limits before f e none place tells =
    let hel : f.kind ≡ Hel = hel_only f.kind (subst (λ (h : Option Hello). IsTrue (lets_in (server_gate_behind limits h (issued before)) f.kind)) none place) in
    greeted limits before (hello_in f.body) e (ap (λ (k : Kind). server_tells limits before (content_by k f)) (sym hel) ∙ tells)

later_frame : (limits : Limits) (before : Received) (f : Frame) (h : Hello) (a : Agreement) → before.hello ≡ Some h
    → IsTrue (lets_in (server_gate limits before) f.kind) → server_tells limits before (content f) ≡ Agreed a ∷ [] → ⊥
unfolding content
later_frame limits before f h a some place tells =
    let hel : f.kind ≡ Hel = agreeing_kind limits before f.kind f a tells in
    no_hello (receive_size limits (Some h)) (issued before == 0)
    (subst (λ (k : Kind). IsTrue (lets_in (server_gate_behind limits (Some h) (issued before)) k)) hel
    (subst (λ (o : Option Hello). IsTrue (lets_in (server_gate_behind limits o (issued before)) f.kind)) some place))

-- ---- by what was told

mapped : {A B : Type 0} (f : A → B) (o : Option A) (y : B) → option_map f o ≡ Some y → (x : A) × (o ≡ Some x)
mapped f None y e = absurd cc
mapped f (Some x) y e = (x, refl)

module _ (x : ServerChannel) (octets : List ℕ) (before : List Told) (e : Told) (g : GoesTelling x octets before e) where
  place : IsTrue (lets_in (server_gate (limits_of x) (received g.frames)) g.frame.kind)
  place = (last_of (Fits (rules_of x)) g.frames g.frame g.stands.run.good).let_in.kind

  agreement_is : option_map (agreement_of (limits_of x)) (received g.frames).hello ≡ agreed_by before
  agreement_is = sym (agreed_told (limits_of x) (channel_of x) g.frames) ∙ ap agreed_by g.told_is

  -- what is told first is an agreement
  pub agrees_first : agreed_by before ≡ None → (a : Agreement) × (e ≡ Agreed a)
  agrees_first none = first_frame (limits_of x) (received g.frames) g.frame e
      (none_named (agreement_of (limits_of x)) (received g.frames).hello (agreement_is ∙ none)) place g.tells

  -- there is one
  pub agrees_once : (a b : Agreement) → agreed_by before ≡ Some a → e ≡ Agreed b → ⊥
  agrees_once a b some is =
      let h = mapped (agreement_of (limits_of x)) (received g.frames).hello a (agreement_is ∙ some) in
      later_frame (limits_of x) (received g.frames) g.frame h.0 b h.1 place (g.tells ∙ rw is)
