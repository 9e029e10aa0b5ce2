-- Where a teller stands, with one frame more.
use Rattle.std.proofs.Common.{◌≡◌, ℕ, List, [], ◌∷◌, ◌++◌, Some, None, option_map, refl, sym, ap, subst, ◌∙◌, Result, Ok, Err, OnOk}
use Rattle.ua_frame.specs.declared.frame.Frame.{Frame}
use Rattle.ua_frame.specs.declared.kind.Kind.{Kind}
use Rattle.ua_frame.specs.declared.kind.Kind.TheVariants.{Hel, Ack, Msg, Opn, Clo}
use Rattle.ua_frame.specs.declared.kind.Kind.TheVariants as kind
use Rattle.ua_chunk.specs.declared.chunk.Chunk.{Chunk}
use Rattle.ua_chunk.specs.declared.open_chunk.OpenChunk.{OpenChunk}
use Rattle.ua_chunk.specs.Assembling.{Stands as AssemblerStands, SameLimits, last_number, octet_limit, chunk_limit}
use Rattle.ua_chunk.specs.Layout.{chunk_in}
use Rattle.ua_chunk.specs.Opening.{opening_in}
use Rattle.ua_pair.specs.declared.teller.Teller.{Teller}
use Rattle.ua_pair.specs.declared.fault.DissectFault.{DissectFault}
use Rattle.ua_pair.specs.Before.{message_chunk, message_chunk_by, message_chunks, sequence_of, sequence_by}
use Rattle.ua_pair.specs.Telling.{TellerStands}
use Rattle.ua_pair.proofs.Befores.{message_chunks-none, message_chunks-some, message_chunks-nil, last_sequence-none, last_sequence-some, last_sequence-nil}

-- at the beginning
pub stands_first : (d : Teller) → AssemblerStands d.assembler [] → last_number d.assembler ≡ None → octet_limit d.assembler ≡ 16777216
    → chunk_limit d.assembler ≡ 4096 → TellerStands d []
stands_first d messages last octets chunks = record {
  messages = subst (λ (cs : List Chunk). AssemblerStands d.assembler cs) (sym message_chunks-nil) messages;
  last = last ∙ sym last_sequence-nil;
  octets = octets;
  chunks = chunks;
}

-- a frame that counts for nothing behind it
stands_same : (d : Teller) (fs : List Frame) (f : Frame) → message_chunk f ≡ None → sequence_of f ≡ None → TellerStands d fs → TellerStands d (fs ++ f ∷ [])
stands_same d fs f no_chunk no_number s = record {
  messages = subst (λ (cs : List Chunk). AssemblerStands d.assembler cs) (sym (message_chunks-none fs f no_chunk)) s.messages;
  last = s.last ∙ sym (last_sequence-none fs f no_number);
  octets = s.octets;
  chunks = s.chunks;
}

-- what holds anyway holds on success
on_ok : {T E : Type 0} (r : Result T E) {P : Type 0} → P → OnOk r P
on_ok (Ok x) p = p
on_ok (Err e) p = tt

same_by : {A : Type 0} (k : Kind) (d : Teller) (fs : List Frame) (f : Frame) (r : Result A DissectFault) → TellerStands d fs → f.kind ≡ k
    → message_chunk_by k f ≡ None → sequence_by k f ≡ None → OnOk r (TellerStands d (fs ++ f ∷ []))
same_by k d fs f r s is no_chunk no_number =
    on_ok r (stands_same d fs f (ap (λ (j : Kind). message_chunk_by j f) is ∙ no_chunk) (ap (λ (j : Kind). sequence_by j f) is ∙ no_number) s)

-- a HEL, an ACK and an ERR count for nothing behind them
pub stands_hello : {A : Type 0} (d : Teller) (fs : List Frame) (f : Frame) (r : Result A DissectFault) → f.kind ≡ Hel → TellerStands d fs
    → OnOk r (TellerStands d (fs ++ f ∷ []))
stands_hello d fs f r is s = same_by Hel d fs f r s is refl refl

pub stands_ack : {A : Type 0} (d : Teller) (fs : List Frame) (f : Frame) (r : Result A DissectFault) → f.kind ≡ Ack → TellerStands d fs
    → OnOk r (TellerStands d (fs ++ f ∷ []))
stands_ack d fs f r is s = same_by Ack d fs f r s is refl refl

pub stands_error : {A : Type 0} (d : Teller) (fs : List Frame) (f : Frame) (r : Result A DissectFault) → f.kind ≡ kind.Err → TellerStands d fs
    → OnOk r (TellerStands d (fs ++ f ∷ []))
stands_error d fs f r is s = same_by kind.Err d fs f r s is refl refl

-- a frame with a number that carries no chunk of a message
stands_step : (d e : Teller) (fs : List Frame) (f : Frame) (n : ℕ) → TellerStands d fs → message_chunk f ≡ None → sequence_of f ≡ Some n
    → AssemblerStands e.assembler (message_chunks fs) → last_number e.assembler ≡ Some n → SameLimits d.assembler e.assembler → TellerStands e (fs ++ f ∷ [])
stands_step d e fs f n s no_chunk number messages last limits = record {
  messages = subst (λ (cs : List Chunk). AssemblerStands e.assembler cs) (sym (message_chunks-none fs f no_chunk)) messages;
  last = last ∙ sym (last_sequence-some fs f n number);
  octets = sym limits.octets ∙ s.octets;
  chunks = sym limits.chunks ∙ s.chunks;
}

pub stands_opening : (d e : Teller) (fs : List Frame) (f : Frame) (c : OpenChunk) → TellerStands d fs → f.kind ≡ Opn → opening_in f ≡ Some c
    → AssemblerStands e.assembler (message_chunks fs) → last_number e.assembler ≡ Some c.sequence → SameLimits d.assembler e.assembler
    → TellerStands e (fs ++ f ∷ [])
stands_opening d e fs f c s is opening messages last limits =
    stands_step d e fs f c.sequence s (ap (λ (j : Kind). message_chunk_by j f) is)
    (ap (λ (j : Kind). sequence_by j f) is ∙ ap (option_map (λ (o : OpenChunk). o.sequence)) opening) messages last limits

pub stands_close : (d e : Teller) (fs : List Frame) (f : Frame) (c : Chunk) → TellerStands d fs → f.kind ≡ Clo → chunk_in f ≡ Some c
    → AssemblerStands e.assembler (message_chunks fs) → last_number e.assembler ≡ Some c.sequence → SameLimits d.assembler e.assembler
    → TellerStands e (fs ++ f ∷ [])
stands_close d e fs f c s is chunk messages last limits =
    stands_step d e fs f c.sequence s (ap (λ (j : Kind). message_chunk_by j f) is)
    (ap (λ (j : Kind). sequence_by j f) is ∙ ap (option_map (λ (o : Chunk). o.sequence)) chunk) messages last limits

pub stands_message : (d e : Teller) (fs : List Frame) (f : Frame) (c : Chunk) → TellerStands d fs → f.kind ≡ Msg → chunk_in f ≡ Some c
    → AssemblerStands e.assembler (message_chunks fs ++ c ∷ []) → last_number e.assembler ≡ Some c.sequence → SameLimits d.assembler e.assembler
    → TellerStands e (fs ++ f ∷ [])
stands_message d e fs f c s is chunk messages last limits = record {
  messages = subst (λ (cs : List Chunk). AssemblerStands e.assembler cs) (sym (message_chunks-some fs f c (ap (λ (j : Kind). message_chunk_by j f) is ∙ chunk)))
      messages;
  last = last ∙ sym (last_sequence-some fs f c.sequence (ap (λ (j : Kind). sequence_by j f) is ∙ ap (option_map (λ (o : Chunk). o.sequence)) chunk));
  octets = sym limits.octets ∙ s.octets;
  chunks = sym limits.chunks ∙ s.chunks;
}
