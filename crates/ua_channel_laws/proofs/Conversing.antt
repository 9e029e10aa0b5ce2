-- What a conversation says of one frame more, at both ends.
use Rattle.std.proofs.Common.{◌≡◌, ℕ, Bool, true, false, IsTrue, not, List, [], ◌∷◌, ◌++◌, Option, Some}
use Rattle.std.proofs.Common.{None, option_map, refl, ◌&&◌, length, sym, ◌∙◌, ap, ◌≤◌, map, subst, arith}
use Rattle.std.specs.List.{AllByRecursion}
use Rattle.std.specs.Prelude.{◌↔◌, is_none}
use Rattle.std.proofs.lemmas.Bool.{le-ltb, ltb-false, not-false, not_from_true}
use Rattle.ua_frame.specs.After.{AllAfter, AllFrom}
use Rattle.ua_frame.specs.Frames.{frame_size}
use Rattle.ua_frame.specs.Run.{Fits, Rules, refusal}
use Rattle.ua_builtin.specs.Reasons.{first_reason}
use Rattle.ua_frame.specs.declared.frame.Frame.{Frame}
use Rattle.ua_frame.specs.declared.gate.Gate.{Gate}
use Rattle.ua_frame.specs.declared.kind.Kind.{Kind}
use Rattle.ua_frame.specs.declared.limits.Limits.{Limits}
use Rattle.ua_frame.specs.Kinds.{lets_in}
use Rattle.ua_chunk.specs.declared.chunk.Chunk.{Chunk}
use Rattle.ua_chunk.specs.declared.flag.Flag.{Flag}
use Rattle.ua_chunk.specs.declared.flag.Flag.TheVariants.{F, C, A}
use Rattle.ua_chunk.specs.Abort.{is_readable_abort}
use Rattle.ua_chunk.specs.Flag.{is_abort_flag}
use Rattle.ua_chunk.specs.Gathered.{gathered, joined}
use Rattle.ua_chunk.specs.Open.{open_ids}
use Rattle.ua_chunk.specs.Refusal.{FewOpen, TakesMessages, message_reasons, message_refusal, most_open, passes}
use Rattle.ua_chunk.specs.Sequence.{may_follow}
use Rattle.ua_channel.specs.Content.{Content, content, content_by}
use Rattle.ua_channel.specs.Content.Content.{Greets, Acks, Fails, Opens, Sends, Closes, Nothing}
use Rattle.ua_channel_laws.specs.Conversation.{AreOrdered, FitMessages, IsFramed}
use Rattle.ua_channel.specs.Received.{Received, after, chunks_in, number_listed, number_or, numbers_in, messages, numbers, received, or_before}
use Rattle.ua_channel.specs.ServerRefusals.{of_number}
use Rattle.ua_channel.proofs.OneFrameMore.{received-nil, received-push}
use Rattle.ua_channel_laws.proofs.PairedCalls.{none_holds}

-- ---- tables

pub none_first : {A : Type 0} (rs ts : List (A × Bool)) → first_reason (rs ++ ts) ≡ None → first_reason rs ≡ None
none_first [] ts e = refl
none_first ((a, true) ∷ rs) ts e = absurd cc
none_first ((a, false) ∷ rs) ts e = none_first rs ts e

pub none_then : {A : Type 0} (rs ts : List (A × Bool)) → first_reason (rs ++ ts) ≡ None → first_reason ts ≡ None
none_then [] ts e = e
none_then ((a, true) ∷ rs) ts e = absurd cc
none_then ((a, false) ∷ rs) ts e = none_then rs ts e

pub none_named : {A B : Type 0} (name : A → B) (o : Option A) → option_map name o ≡ None → o ≡ None
none_named name None e = refl
none_named name (Some a) e = absurd cc

pub before_none : {A : Type 0} (o found : Option A) → or_before o found ≡ None → o ≡ None
before_none o None e = e
before_none o (Some a) e = absurd cc

pub some_there : {A : Type 0} (o : Option A) → is_none o ≡ false → (a : A) × (o ≡ Some a)
some_there None e = absurd cc
some_there (Some a) e = (a, refl)

-- ---- the order

-- here comes one of this kind exactly where this gate lets it in and what follows comes behind it
pub record InOrder (gate : Gate) (k : Kind) (next here : Type 0) : Type 0 where
  pub comes : IsTrue (lets_in gate k) → next → here
  pub lets : here → IsTrue (lets_in gate k) × next

pub content_kind : (f : Frame) → content f ≡ content_by f.kind f
unfolding content
content_kind f = refl

pub in_order : {gate : Gate} {k : Kind} {next here : Type 0} → IsTrue (lets_in gate k) → next ↔ here → InOrder gate k next here
in_order kind same = record { comes = λ let_in follows. same.0 follows; lets = λ order. (kind, same.1 order) }

pub out_of_order : {gate : Gate} {k : Kind} {next here : Type 0} → (IsTrue (lets_in gate k) → ⊥) → (here → ⊥) → InOrder gate k next here
out_of_order shut never = record { comes = λ kind follows. absurd (shut kind); lets = λ order. absurd (never order) }

-- ---- numbers

pub numbers_follow : (last : Option ℕ) (n : Option (ℕ × ℕ)) → of_number (λ k. not (may_follow last k)) n ≡ false → AreOrdered last (number_listed n)
numbers_follow last None e = tt
numbers_follow last (Some n) e = (not-false (may_follow last n.0) e, tt)

pub follow_numbers : (last : Option ℕ) (n : Option (ℕ × ℕ)) → AreOrdered last (number_listed n) → of_number (λ k. not (may_follow last k)) n ≡ false
follow_numbers last None h = refl
follow_numbers last (Some n) h = not_from_true (may_follow last n.0) h.0

-- ---- messages

-- the message of a chunk is taken behind the chunks before
unfoldable pub MessageFits : Limits → Received → Content → Type 0
MessageFits limits b (Greets hello) = Unit {0}
MessageFits limits b (Acks ack) = Unit {0}
MessageFits limits b (Fails error) = Unit {0}
MessageFits limits b (Opens o) = Unit {0}
MessageFits limits b (Sends c) = message_refusal limits.max_message_size limits.max_chunk_count b.messages c ≡ None
MessageFits limits b (Closes c) = Unit {0}
MessageFits limits b Nothing = Unit {0}

-- ---- lists of numbers and of chunks, with one frame more

opening_apart : (last : Option ℕ) (n : Option (ℕ × ℕ)) (ns : List ℕ)
    → AreOrdered last (number_listed n ++ ns) ↔ (AreOrdered last (number_listed n) × AreOrdered (number_or last n) ns)
opening_apart last None ns = (λ h. (tt, h), λ k. k.1)
opening_apart last (Some n) ns = (λ h. ((h.0, tt), h.1), λ k. (k.0.0, k.1))

pub ordered_apart : (b : Received) (c : Content) (ns : List ℕ)
    → AreOrdered b.last (numbers_in c ++ ns) ↔ (AreOrdered b.last (numbers_in c) × AreOrdered (after b c).last ns)
ordered_apart b (Greets hello) ns = (λ h. (tt, h), λ k. k.1)
ordered_apart b (Acks ack) ns = (λ h. (tt, h), λ k. k.1)
ordered_apart b (Fails error) ns = (λ h. (tt, h), λ k. k.1)
ordered_apart b (Opens o) ns = opening_apart b.last o.numbers ns
ordered_apart b (Sends c) ns = (λ h. ((h.0, tt), h.1), λ k. (k.0.0, k.1))
ordered_apart b (Closes c) ns = (λ h. ((h.0, tt), h.1), λ k. (k.0.0, k.1))
ordered_apart b Nothing ns = (λ h. (tt, h), λ k. k.1)

pub messages_apart : (limits : Limits) (b : Received) (c : Content) (cs : List Chunk)
    → TakesMessages limits.max_message_size limits.max_chunk_count b.messages (chunks_in c ++ cs)
    ↔ (MessageFits limits b c × TakesMessages limits.max_message_size limits.max_chunk_count (after b c).messages cs)
unfolding MessageFits
messages_apart limits b (Greets hello) cs = (λ h. (tt, h), λ k. k.1)
messages_apart limits b (Acks ack) cs = (λ h. (tt, h), λ k. k.1)
messages_apart limits b (Fails error) cs = (λ h. (tt, h), λ k. k.1)
messages_apart limits b (Opens o) cs = (λ h. (tt, h), λ k. k.1)
messages_apart limits b (Sends c) cs = (λ h. h, λ k. k)
messages_apart limits b (Closes c) cs = (λ h. (tt, h), λ k. k.1)
messages_apart limits b Nothing cs = (λ h. (tt, h), λ k. k.1)

-- ---- messages in plain words

-- the rest of messages that fit, behind some chunks
record FitFrom (limits : Limits) (us cs : List Chunk) : Type 0 where
  aborts_read : AllByRecursion (λ (c : Chunk). c.flag ≡ A → is_readable_abort c.body ≡ true) cs
  few_open : FewOpen us cs
  octets_fit : AllFrom (λ us c. is_abort_flag c.flag ≡ false → passes limits.max_message_size (length (joined (gathered us c))) ≡ false) us cs
  chunks_fit : AllFrom (λ us c. is_abort_flag c.flag ≡ false → passes limits.max_chunk_count (length (gathered us c)) ≡ false) us cs

abort_reads : (f : Flag) (reads : Bool) → (is_abort_flag f && not reads) ≡ false → f ≡ A → reads ≡ true
abort_reads f reads e is = not-false reads (ap (λ (g : Flag). is_abort_flag g && not reads) (sym is) ∙ e)

reads_abort : (f : Flag) (reads : Bool) → (f ≡ A → reads ≡ true) → (is_abort_flag f && not reads) ≡ false
reads_abort F reads h = refl
reads_abort C reads h = refl
reads_abort A reads h = not_from_true reads (h refl)

within : (abort passed : Bool) → (not abort && passed) ≡ false → abort ≡ false → passed ≡ false
within true passed e is = absurd cc
within false passed e is = e

passed_none : (abort passed : Bool) → (abort ≡ false → passed ≡ false) → (not abort && passed) ≡ false
passed_none true passed h = refl
passed_none false passed h = h refl

fit_from : (limits : Limits) (us cs : List Chunk) → TakesMessages limits.max_message_size limits.max_chunk_count us cs → FitFrom limits us cs
fit_from limits us [] h = record { aborts_read = tt; few_open = tt; octets_fit = tt; chunks_fit = tt }
fit_from limits us (c ∷ cs) h =
    let rest = fit_from limits (us ++ c ∷ []) cs h.1 in
    let all = none_holds (message_reasons limits.max_message_size limits.max_chunk_count us c) h.0 in
    record {
      aborts_read = (abort_reads c.flag (is_readable_abort c.body) all.0, rest.aborts_read);
      few_open = (ltb-false most_open (length (open_ids (us ++ c ∷ []))) all.1.0, rest.few_open);
      octets_fit = (within (is_abort_flag c.flag) (passes limits.max_message_size (length (joined (gathered us c)))) all.1.1.0, rest.octets_fit);
      chunks_fit = (within (is_abort_flag c.flag) (passes limits.max_chunk_count (length (gathered us c))) all.1.1.1.0, rest.chunks_fit);
    }

takes_from : (limits : Limits) (us cs : List Chunk) → FitFrom limits us cs → TakesMessages limits.max_message_size limits.max_chunk_count us cs
takes_from limits us [] h = tt
takes_from limits us (c ∷ cs) h =
    let read = reads_abort c.flag (is_readable_abort c.body) h.aborts_read.0 in
    let few = le-ltb most_open (length (open_ids (us ++ c ∷ []))) h.few_open.0 in
    let octets = passed_none (is_abort_flag c.flag) (passes limits.max_message_size (length (joined (gathered us c)))) h.octets_fit.0 in
    let chunks = passed_none (is_abort_flag c.flag) (passes limits.max_chunk_count (length (gathered us c))) h.chunks_fit.0 in (
      rw (read, few, octets, chunks) refl,
      takes_from limits (us ++ c ∷ []) cs
          (record { aborts_read = h.aborts_read.1; few_open = h.few_open.1; octets_fit = h.octets_fit.1; chunks_fit = h.chunks_fit.1 }),
    )

-- messages that are taken are those that fit
pub messages_fit : (limits : Limits) (cs : List Chunk) → TakesMessages limits.max_message_size limits.max_chunk_count [] cs ↔ FitMessages limits cs
unfolding AllAfter
messages_fit limits cs = (
  λ h.
      let f = fit_from limits [] cs h in
      record { aborts_read = f.aborts_read; few_open = f.few_open; octets_fit = f.octets_fit; chunks_fit = f.chunks_fit },
  λ f. takes_from limits [] cs (record { aborts_read = f.aborts_read; few_open = f.few_open; octets_fit = f.octets_fit; chunks_fit = f.chunks_fit }),
)

-- ---- frames behind frames

-- a frame that may come so is taken
pub record IsGoodFrame (May : Type 0) (limits : Limits) (b : Received) (c : Content) : Type 0 where
  pub carries : May
  pub ordered : AreOrdered b.last (numbers_in c)
  pub message : MessageFits limits b c

-- the rest of a conversation behind some frames
pub record From {A : Type 0} (limits : Limits) (name : Frame → A) (Order : Received → List A → Type 0) (size : Received → ℕ) (May : List Frame → Frame → Type 0)
    (start fs : List Frame) : Type 0 where
  pub order : Order (received start) (map name fs)
  pub framed : AllByRecursion IsFramed fs
  pub fits : AllFrom (λ before f. frame_size f ≤ size (received before)) start fs
  pub carries : AllFrom May start fs
  pub ordered : AreOrdered (received start).last (numbers fs)
  pub messages_fit : TakesMessages limits.max_message_size limits.max_chunk_count (received start).messages (messages fs)

-- what an end says of each frame of a conversation
pub record Converses {E X A : Type 0} (R : Rules E X) (limits : Limits) (name : Frame → A) (Order : Received → List A → Type 0) (IsPlaced : Received → Type 0)
    (size : Received → ℕ) (May : List Frame → Frame → Type 0) : Type 0 where
  pub order_nil : (b : Received) → Order b []
  pub goes_on : (start : List Frame) (f : Frame) (later : List A) → Order (received start) (name f ∷ later) → R.over start ≡ false
  pub largest : (start : List Frame) → (R.gate start).largest ≡ size (received start)
  pub placed : (start : List Frame) (f : Frame) → IsPlaced (received start) → IsTrue (lets_in (R.gate start) f.kind) → IsPlaced (received (start ++ f ∷ []))
  pub in_order : (start : List Frame) (f : Frame) (later : List A) → R.over start ≡ false → IsPlaced (received start) → May start f
      → InOrder (R.gate start) f.kind (Order (after (received start) (content f)) later) (Order (received start) (name f ∷ later))
  pub good : (start : List Frame) (f : Frame) → refusal R start f ≡ None → IsGoodFrame (May start f) limits (received start) (content f)
  pub accepted : (start : List Frame) (f : Frame) → IsGoodFrame (May start f) limits (received start) (content f) → refusal R start f ≡ None

module _ {E X A : Type 0} (R : Rules E X) (limits : Limits) (name : Frame → A) (Order : Received → List A → Type 0) (IsPlaced : Received → Type 0)
    (size : Received → ℕ) (May : List Frame → Frame → Type 0)
    (w : Converses R limits name Order IsPlaced size May) where
  -- frames that are taken behind others are the rest of a conversation
  pub converse : (start fs : List Frame) → IsPlaced (received start) → AllFrom (Fits R) start fs → From limits name Order size May start fs
  unfolding numbers messages
  converse start [] placed fits = record { order = w.order_nil (received start); framed = tt; fits = tt; carries = tt; ordered = tt; messages_fit = tt }
  converse start (f ∷ fs) placed fits =
      let one = fits.0 in
      let g = w.good start f one.accepted in
      let rest = converse (start ++ f ∷ []) fs (w.placed start f placed one.let_in.kind) fits.1 in
      let now = received-push start f in
      record {
        order = (w.in_order start f (map name fs) one.goes_on placed g.carries).comes one.let_in.kind
            (rw (← now) rest.order);
        framed = (record { sized = one.sized; flag = one.let_in.flag; least = one.let_in.least }, rest.framed);
        fits = (omega (arith, one.let_in.largest, w.largest start), rest.fits);
        carries = (g.carries, rest.carries);
        ordered = (ordered_apart (received start) (content f) (numbers fs)).1
            (g.ordered, rw (← now) rest.ordered);
        messages_fit =
            (messages_apart limits (received start) (content f) (messages fs)).1
            (g.message, rw (← now) rest.messages_fit);
      }

  -- and the other way round
  pub taken : (start fs : List Frame) → IsPlaced (received start) → From limits name Order size May start fs → AllFrom (Fits R) start fs
  unfolding numbers messages
  taken start [] placed c = tt
  taken start (f ∷ fs) placed c =
      let on = w.goes_on start f (map name fs) c.order in
      let next = (w.in_order start f (map name fs) on placed c.carries.0).lets c.order in
      let number = (ordered_apart (received start) (content f) (numbers fs)).0 c.ordered in
      let message = (messages_apart limits (received start) (content f) (messages fs)).0 c.messages_fit in
      let now = received-push start f in (
        record {
          goes_on = on;
          sized = c.framed.0.sized;
          let_in = record { kind = next.0; flag = c.framed.0.flag; largest = omega (arith, c.fits.0, w.largest start); least = c.framed.0.least };
          accepted = w.accepted start f (record { carries = c.carries.0; ordered = number.0; message = message.0 });
        },
        taken (start ++ f ∷ []) fs (w.placed start f placed next.0) (record {
          order = rw now next.1;
          framed = c.framed.1;
          fits = c.fits.1;
          carries = c.carries.1;
          ordered = rw now number.1;
          messages_fit = rw now message.1;
        }),
      )

-- from the first frame on
pub ordered_first : (ns : List ℕ) → AreOrdered (received []).last ns ↔ AreOrdered None ns
ordered_first ns = (subst (λ (b : Received). AreOrdered b.last ns) received-nil, subst (λ (b : Received). AreOrdered b.last ns) (sym received-nil))

pub fit_first : (limits : Limits) (cs : List Chunk) → TakesMessages limits.max_message_size limits.max_chunk_count (received []).messages cs ↔ FitMessages
    limits cs
fit_first limits cs = rw received-nil (messages_fit limits cs)
