-- What becomes of OPN, MSG and CLO frames.
use Rattle.std.proofs.Common.{◌≡◌, ℕ, Bool, not, IsTrue, List, [], ◌∷◌, ◌++◌, Option, Some, None, option_map}
use Rattle.std.proofs.Common.{Result, Ok, Err, IfOk, codes, refl, sym, ap, subst, ◌∙◌, append-nil, append_assoc}
use Rattle.ua_builtin.specs.Reasons.{first_reason}
use Rattle.ua_builtin.proofs.FirstReasons.{first_reason-map}
use Rattle.ua_frame.specs.declared.frame.Frame.{Frame}
use Rattle.ua_wire.specs.Format.{Flat}
use Rattle.ua_frame.specs.declared.kind.Kind.{Kind}
use Rattle.ua_frame.specs.declared.kind.Kind.TheVariants.{Msg, Opn}
use Rattle.ua_frame.specs.Frames.{frame_size}
use Rattle.ua_frame.specs.Whole.{whole_of}
use Rattle.ua_chunk.specs.Assembling.{octet_limit, chunk_limit, last_number}
use Rattle.ua_chunk.specs.Delivered.{given}
use Rattle.ua_chunk.specs.Item.{Item}
use Rattle.ua_pair.specs.declared.teller.Teller.{Teller}
use Rattle.ua_pair.specs.Lines.{chunk_line, opening_line}
use Rattle.ua_chunk.specs.declared.chunk.Chunk.{Chunk}
use Rattle.ua_chunk.specs.declared.fault.AssembleFault.{AssembleFault}
use Rattle.ua_chunk.specs.declared.fault.AssembleFault.TheVariants.{Sequence, Unreadable, TooManyOpen, MessageTooLarge, TooManyChunks, OutOfMemory, Closed}
use Rattle.ua_chunk.specs.Layout.{chunk_in}
use Rattle.ua_chunk.specs.Opening.{open_refusal, opening_in}
use Rattle.ua_chunk.specs.Sequence.{may_follow}
use Rattle.ua_chunk.specs.declared.fault.OpenFault.{OpenFault}
use Rattle.ua_chunk.specs.declared.open_chunk.OpenChunk.{OpenChunk}
use Rattle.ua_chunk.specs.Refusal.{reasons, chunk_refusal, IsFor}
use Rattle.ua_pair.specs.declared.fault.DissectFault.{DissectFault}
use Rattle.ua_pair.specs.declared.fault.DissectFault.TheVariants.{Refused}
use Rattle.ua_pair.specs.declared.fault.DissectFault.TheVariants as fault
use Rattle.ua_pair.specs.declared.pending.Pending.{Pending}
use Rattle.ua_fields.specs.declared.side.Side.{Side}
use Rattle.ua_pair.specs.declared.options.DissectOptions.{DissectOptions}
use Rattle.ua_pair.specs.Before.{message_chunks, last_sequence, sequence_by}
use Rattle.ua_pair.specs.Telling.{ArePendingLines, TellerStands, JudgesFrameTelling, JudgesKind, chunk_fault, none_pending}
use Rattle.ua_pair.specs.Refused.{most_message_octets, most_chunks, breaks_number_order, chunk_code, chunk_reasons_of_side}
use Rattle.ua_pair.specs.Refused.{greeting_reasons, frame_reasons, is_other_policy, is_open_unreadable, opening_reasons}
use Rattle.ua_fields.specs.Bodies.{IsFound}
use Rattle.ua_pair.specs.Told.{AreParts, IsChunkText, IsFrameText, IsItemText, IsOpenedText, IsOpeningText, IsTextBy, line_if, place_behind}

-- ---- MSG

-- the first reason against a chunk, by its code
chunk_reason : (side : Side) (last : Option ℕ) (cs : List Chunk) (f : Frame) (c : Chunk) → chunk_in f ≡ Some c
    → first_reason (chunk_reasons_of_side side last cs (chunk_in f)) ≡ option_map (chunk_code side) (chunk_refusal most_message_octets most_chunks last cs c)
chunk_reason side last cs f c e =
    ap (λ (o : Option Chunk). first_reason (chunk_reasons_of_side side last cs o)) e
    ∙ first_reason-map (chunk_code side) (reasons most_message_octets most_chunks last cs c)

-- a chunk that is taken
pub message_taken : (side : Side) (last : Option ℕ) (cs : List Chunk) (f : Frame) (c : Chunk) → chunk_in f ≡ Some c
    → chunk_refusal most_message_octets most_chunks last cs c ≡ None → first_reason (chunk_reasons_of_side side last cs (chunk_in f)) ≡ None
message_taken side last cs f c e none = chunk_reason side last cs f c e ∙ ap (option_map (chunk_code side)) none

-- a chunk that is not
pub message_refused : (A : Type 0) (side : Side) (last : Option ℕ) (cs : List Chunk) (f : Frame) (c : Chunk) (fault : AssembleFault) (Holds : List ℕ → Type 0)
    (old new : List ℕ) → chunk_in f ≡ Some c → IsFor (chunk_refusal most_message_octets most_chunks last cs c) fault
    → JudgesFrameTelling {A = A} (first_reason (chunk_reasons_of_side side last cs (chunk_in f))) Holds (Err (chunk_fault side fault)) old new
message_refused A side last cs f c Sequence Holds old new e h = chunk_reason side last cs f c e ∙ ap (option_map (chunk_code side)) h
message_refused A side last cs f c Unreadable Holds old new e h = chunk_reason side last cs f c e ∙ ap (option_map (chunk_code side)) h
message_refused A side last cs f c TooManyOpen Holds old new e h = chunk_reason side last cs f c e ∙ ap (option_map (chunk_code side)) h
message_refused A side last cs f c MessageTooLarge Holds old new e h = chunk_reason side last cs f c e ∙ ap (option_map (chunk_code side)) h
message_refused A side last cs f c TooManyChunks Holds old new e h = chunk_reason side last cs f c e ∙ ap (option_map (chunk_code side)) h
message_refused A side last cs f c OutOfMemory Holds old new e h = tt
message_refused A side last cs f c Closed Holds old new e h = absurd h

-- the limits and the last number of a teller are those of its frames
pub refusal_at : (d : Teller) (fs : List Frame) (cs : List Chunk) (c : Chunk) → TellerStands d fs
    → chunk_refusal (octet_limit d.assembler) (chunk_limit d.assembler) (last_number d.assembler) cs c ≡ chunk_refusal most_message_octets most_chunks
    (last_sequence fs) cs c
refusal_at d fs cs c s =
    ap (λ (n : ℕ). chunk_refusal n (chunk_limit d.assembler) (last_number d.assembler) cs c) s.octets
    ∙ ap (λ (n : ℕ). chunk_refusal most_message_octets n (last_number d.assembler) cs c) s.chunks
    ∙ ap (λ (o : Option ℕ). chunk_refusal most_message_octets most_chunks o cs c) s.last

-- the text of a chunk that is taken
message_told : (options : DissectOptions) (cs : List Chunk) (place n : ℕ) (f : Frame) (c : Chunk) (items : List Item) (old mid new : List ℕ)
    → chunk_in f ≡ Some c → n ≡ frame_size f → given cs c ≡ items → mid ≡ old ++ chunk_line (codes "MSG") place n c
    → ((more : List ℕ) × (new ≡ mid ++ more) × AreParts (IsItemText options) items more)
    → (text : List ℕ) × (new ≡ old ++ text) × IsFound (IsChunkText options cs place (frame_size f)) (chunk_in f) text
message_told options cs place n f c items old mid new e size given_is first second =
    let line = chunk_line (codes "MSG") place n c in
    let parts : AreParts (IsItemText options) (given cs c) second.0 = subst (λ (its : List Item). AreParts (IsItemText options) its second.0)
    (sym given_is) second.2 in
    let chunk : IsChunkText options cs place n c (line ++ second.0) = (second.0, refl, parts) in
    let sized : IsChunkText options cs place (frame_size f) c (line ++ second.0) =
    subst (λ (m : ℕ). IsChunkText options cs place m c (line ++ second.0)) size chunk in (
      line ++ second.0,
      second.1 ∙ ap (λ (t : List ℕ). t ++ second.0) first ∙ append_assoc old line second.0,
      subst (λ (o : Option Chunk). IsFound (IsChunkText options cs place (frame_size f)) o (line ++ second.0)) (sym e) sized,
    )

module _ (d : Teller) (fs : List Frame) (place n : ℕ) (f : Frame) (c : Chunk) (old mid : List ℕ) (s : TellerStands d fs) (chunk : chunk_in f ≡ Some c)
    (size : n ≡ frame_size f) (first : mid ≡ old ++ chunk_line (codes "MSG") place n c) where
  -- a chunk that delivers nothing
  pub message_continued : chunk_refusal (octet_limit d.assembler) (chunk_limit d.assembler) (last_number d.assembler) (message_chunks fs) c ≡ None
      → given (message_chunks fs) c ≡ [] → JudgesKind {A = Unit {0}} Msg d.options fs place f (Ok tt) old mid
  message_continued none given_is = (
    message_taken d.options.side (last_sequence fs) (message_chunks fs) f c chunk (sym (refusal_at d fs (message_chunks fs) c s) ∙ none),
    message_told d.options (message_chunks fs) place n f c [] old mid mid chunk size given_is first ([], sym (append-nil mid), refl),
  )

  -- a chunk that delivers a message
  pub message_delivered : (item : Item) (new : List ℕ) → chunk_refusal (octet_limit d.assembler) (chunk_limit d.assembler) (last_number d.assembler)
      (message_chunks fs) c ≡ None → given (message_chunks fs) c ≡ item ∷ []
      → ((more : List ℕ) × (new ≡ mid ++ more) × IsItemText d.options item more) → JudgesKind {A = Unit {0}} Msg d.options fs place f (Ok tt) old new
  message_delivered item new none given_is second = (
    message_taken d.options.side (last_sequence fs) (message_chunks fs) f c chunk (sym (refusal_at d fs (message_chunks fs) c s) ∙ none),
    message_told d.options (message_chunks fs) place n f c (item ∷ []) old mid new chunk size given_is first
        (second.0, second.1, (second.0, [], sym (append-nil second.0), second.2, refl)),
  )

-- a chunk that is refused
pub message_fails : (A : Type 0) (d : Teller) (fs : List Frame) (place : ℕ) (f : Frame) (c : Chunk) (fault : AssembleFault) (e : DissectFault)
    (old new : List ℕ)
    → TellerStands d fs → chunk_in f ≡ Some c
    → IsFor (chunk_refusal (octet_limit d.assembler) (chunk_limit d.assembler) (last_number d.assembler) (message_chunks fs) c) fault
    → e ≡ chunk_fault d.options.side fault → JudgesKind {A = A} Msg d.options fs place f (Err e) old new
message_fails A d fs place f c fault e old new s chunk why is =
    subst (λ (x : DissectFault). JudgesKind {A = A} Msg d.options fs place f (Err x) old new) (sym is)
    (message_refused A d.options.side (last_sequence fs) (message_chunks fs) f c fault (IsTextBy Msg d.options (message_chunks fs) place f) old new chunk
    (subst (λ (o : Option AssembleFault). IsFor o fault) (refusal_at d fs (message_chunks fs) c s) why))

-- ---- OPN

-- an OPN that is taken has no reason against it
opening_taken : (last : Option ℕ) (f : Frame) (c : OpenChunk) → open_refusal f.body ≡ None → opening_in f ≡ Some c → IsTrue (may_follow last c.sequence)
    → first_reason (opening_reasons last f) ≡ None
opening_taken last f c none found follows =
    ap (λ (o : Option OpenFault).
    first_reason ((0x8007_0000, is_open_unreadable o) ∷ (0x8055_0000, is_other_policy o) ∷ (0x8088_0000, breaks_number_order last (sequence_by Opn f)) ∷ []))
    none
    ∙ ap (λ (o : Option OpenChunk). first_reason ((0x8088_0000, breaks_number_order last (option_map (λ (x : OpenChunk). x.sequence) o)) ∷ [])) found
    ∙ ap (λ (b : Bool). first_reason ((0x8088_0000, not b) ∷ [])) follows

-- its text
opening_text : (options : DissectOptions) (place n : ℕ) (f : Frame) (c : OpenChunk) (old mid new : List ℕ) → opening_in f ≡ Some c → n ≡ frame_size f
    → mid ≡ old ++ opening_line place n c
    → ((more : List ℕ) × (new ≡ mid ++ more) × IsOpenedText options c more)
    → (text : List ℕ) × (new ≡ old ++ text) × IsFound (IsOpeningText options place (frame_size f)) (opening_in f) text
opening_text options place n f c old mid new e size first second =
    let line = opening_line place n c in
    let opening : IsOpeningText options place n c (line ++ second.0) = (second.0, refl, second.2) in
    let sized : IsOpeningText options place (frame_size f) c (line ++ second.0) =
    subst (λ (m : ℕ). IsOpeningText options place m c (line ++ second.0)) size opening in (
      line ++ second.0,
      second.1 ∙ ap (λ (t : List ℕ). t ++ second.0) first ∙ append_assoc old line second.0,
      subst (λ (o : Option OpenChunk). IsFound (IsOpeningText options place (frame_size f)) o (line ++ second.0)) (sym e) sized,
    )

pub opening_titled : (d : Teller) (fs : List Frame) (place n : ℕ) (f : Frame) (c : OpenChunk) (pending : Option Pending) (old mid new : List ℕ)
    → TellerStands d fs → open_refusal f.body ≡ None → opening_in f ≡ Some c → n ≡ frame_size f
    → IsTrue (may_follow (last_number d.assembler) c.sequence) → mid ≡ old ++ opening_line place n c
    → ((more : List ℕ) × (new ≡ mid ++ more) × IsOpenedText d.options c more)
    → JudgesKind {A = Option Pending} Opn d.options fs place f (Ok pending) old new
opening_titled d fs place n f c pending old mid new s none found size follows first second = (
  opening_taken (last_sequence fs) f c none found (subst (λ (o : Option ℕ). IsTrue (may_follow o c.sequence)) s.last follows),
  opening_text d.options place n f c old mid new found size first second,
)

-- ---- any frame

-- a HEL, an ACK or an ERR, by its body and size
pub greeting_judged : {A : Type 0} (message : Flat A) (line : ℕ → A → List ℕ) (read body : List ℕ) (n m : ℕ) (result : Result (Unit {0}) DissectFault)
    (old new : List ℕ) → read ≡ body → n ≡ m
    → JudgesFrameTelling (first_reason (greeting_reasons (whole_of message read))) (λ text. text ≡ line_if (line n) (whole_of message read)) result old new
    → JudgesFrameTelling (first_reason (greeting_reasons (whole_of message body))) (λ text. text ≡ line_if (line m) (whole_of message body)) result old new
greeting_judged message line read body n m result old new e size h =
    subst (λ (k : ℕ). JudgesFrameTelling (first_reason (greeting_reasons (whole_of message body))) (λ text. text ≡ line_if (line k) (whole_of message body))
    result old new)
    size
    (subst (λ (b : List ℕ). JudgesFrameTelling (first_reason (greeting_reasons (whole_of message b))) (λ text. text ≡ line_if (line n) (whole_of message b))
    result old new)
    e h)

-- a frame is judged by its kind
pub judged_kind : {A : Type 0} (k : Kind) (options : DissectOptions) (before : List Frame) (place : ℕ) (f : Frame) (result : Result A DissectFault)
    (old new : List ℕ) → f.kind ≡ k → place ≡ place_behind before → JudgesKind k options before place f result old new
    → JudgesFrameTelling (first_reason (frame_reasons options.side before f)) (IsFrameText options before f) result old new
unfolding frame_reasons IsFrameText
judged_kind k options before place f result old new is place_is h =
    subst (λ (p : ℕ). JudgesKind f.kind options before p f result old new) place_is
    (subst (λ (j : Kind). JudgesKind j options before place f result old new) (sym is) h)

-- a frame without a message whose fields are pending
alone_by : (options : DissectOptions) (why : Option ℕ) (Holds : List ℕ → Type 0) (r : Result (Unit {0}) DissectFault) (old new more : List ℕ)
    → IfOk (none_pending r) (λ pending. ArePendingLines options pending more) → JudgesFrameTelling why Holds r old new
    → JudgesFrameTelling why Holds (none_pending r) old (new ++ more)
alone_by options why Holds (Ok x) old new more none h = (h.0, (h.1.0, ap (λ (t : List ℕ). new ++ t) none ∙ append-nil new ∙ h.1.1, h.1.2))
alone_by options why Holds (Err (Refused code)) old new more none h = h
alone_by options why Holds (Err fault.OutOfMemory) old new more none h = tt

pub judged_alone : (options : DissectOptions) (why : Option ℕ) (Holds : List ℕ → Type 0) (r : Result (Unit {0}) DissectFault)
    (result : Result (Option Pending) DissectFault) (old new more : List ℕ) → result ≡ none_pending r
    → IfOk result (λ pending. ArePendingLines options pending more) → JudgesFrameTelling why Holds r old new
    → JudgesFrameTelling why Holds result old (new ++ more)
judged_alone options why Holds r result old new more is none h =
    subst (λ (x : Result (Option Pending) DissectFault). JudgesFrameTelling why Holds x old (new ++ more)) (sym is)
    (alone_by options why Holds r old new more
    (subst (λ (x : Result (Option Pending) DissectFault). IfOk x (λ pending. ArePendingLines options pending more)) is none) h)
