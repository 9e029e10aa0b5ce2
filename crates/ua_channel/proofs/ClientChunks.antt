-- What an open channel of a client makes of a chunk.
use Rattle.std.proofs.Common.{◌≡◌, Bool, true, false, List, [], ◌∷◌, ◌++◌, Option, None, Result, option_map, map, sym, ◌∙◌, ap, subst}
use Rattle.ua_builtin.specs.Reasons.{first_reason, renamed_reason}
use Rattle.ua_builtin.proofs.FirstReasons.{first_reason-map, first_among, first_behind}
use Rattle.ua_chunk.specs.Assembling.{Stands, SameLimits, last_number}
use Rattle.ua_chunk.specs.Gathered.{ends}
use Rattle.ua_chunk.specs.Refusal.{IsFor}
use Rattle.ua_chunk.specs.declared.assembler.Assembler.{Assembler}
use Rattle.ua_chunk.specs.declared.chunk.Chunk.{Chunk}
use Rattle.ua_chunk.specs.declared.delivered.Delivered.{Delivered}
use Rattle.ua_chunk.specs.declared.fault.AssembleFault.{AssembleFault}
use Rattle.ua_chunk.specs.declared.fault.AssembleFault.TheVariants.{Sequence, Unreadable, TooManyOpen, MessageTooLarge, TooManyChunks, OutOfMemory, Closed}
use Rattle.ua_channel.proofs.MessageParts.{ends_in}
use Rattle.ua_channel.specs.inside.ClientParts.{IsStopFor, Judged, why_of, refused_reasons, unasked_reasons}
use Rattle.ua_channel.specs.inside.ClientParts.{known_reasons, IsChunkAccepted, IsDeliveredWith, IsTakenWith, left_behind}
use Rattle.ua_channel.specs.ClientEvents.{event_parts}
use Rattle.ua_channel.specs.inside.EndFaults.{of_chunk_fault}
use Rattle.ua_channel.specs.ClientTokens.{from_last}
use Rattle.ua_channel.specs.ClientTold.{Why, told_item}
use Rattle.ua_channel.specs.declared.client.event.Event.{Event}
use Rattle.ua_channel.specs.declared.end_fault.EndFault.{EndFault}
use Rattle.ua_channel.specs.declared.end_fault.EndFault.TheVariants as stop
use Rattle.ua_channel.specs.declared.client.talking.Talking.{Talking}
use Rattle.ua_channel.proofs.ClientGreets.{judged_same}

-- ---- tables one behind the other

pub stops_among : (rs ss : List (Why × Bool)) (s : EndFault) → IsStopFor rs s → IsStopFor (rs ++ ss) s
stops_among rs ss (stop.Refused code) h = first_among rs ss (record { code = code.code; peer = false }) h
stops_among rs ss (stop.Peer code) h = first_among rs ss (record { code = code.code; peer = true }) h
stops_among rs ss stop.OutOfMemory h = tt
stops_among rs ss stop.Closed h = h

pub judged_behind : {A : Type 0} (rs ss : List (Why × Bool)) (P Q : A → Type 0) (r : Result A EndFault) → first_reason rs ≡ None → ((a : A) → P a → Q a)
    → Judged ss P r → Judged (rs ++ ss) Q r
judged_behind rs ss P Q r none more h = judged_same ss (rs ++ ss) P Q r (first_behind rs ss none) (λ a first p. more a p) h

-- ---- the assembler

pub accepts : (rs : List (AssembleFault × Bool)) → first_reason rs ≡ None → first_reason (map (renamed_reason why_of) rs) ≡ None
accepts rs none = first_reason-map why_of rs ∙ ap (option_map why_of) none

pub refuses : (rs : List (AssembleFault × Bool)) (fault : AssembleFault) → IsFor (first_reason rs) fault
    → IsStopFor (map (renamed_reason why_of) rs) (of_chunk_fault 0x80B9_0000 fault)
refuses rs Sequence h = first_reason-map why_of rs ∙ ap (option_map why_of) h
refuses rs Unreadable h = first_reason-map why_of rs ∙ ap (option_map why_of) h
refuses rs TooManyOpen h = first_reason-map why_of rs ∙ ap (option_map why_of) h
refuses rs MessageTooLarge h = first_reason-map why_of rs ∙ ap (option_map why_of) h
refuses rs TooManyChunks h = first_reason-map why_of rs ∙ ap (option_map why_of) h
refuses rs OutOfMemory h = tt
refuses rs Closed h = h

-- ---- both

module _ (old mid new : Talking) (cs : List Chunk) (c : Chunk) (d : Option Delivered) (acc : IsChunkAccepted old cs c mid d) where
  module _ (e : Option Event) (h : IsDeliveredWith mid c.request c.token (ends c) d new e) where
    same_assembler : new.assembler ≡ mid.assembler
    same_assembler = ap (λ (t : Talking). t.assembler) h.new_is

    both_taken : IsTakenWith old cs c new e
    both_taken = record {
      new_is =
          h.new_is
          ∙ (ap (λ (t : Talking). record t { tokens = new.tokens; pending = new.pending }) acc.new_is
          ∙ ap (λ (a : Assembler). record old { tokens = new.tokens; pending = new.pending; assembler = a }) (sym same_assembler));
      tokens_are = h.tokens_are ∙ ap (λ (t : Talking). from_last c.token t.tokens.items) acc.new_is;
      pending_are = h.pending_are ∙ ap (λ (t : Talking). left_behind (ends c) c.request t.pending.items) acc.new_is;
      stands = subst (λ (a : Assembler). Stands a (cs ++ c ∷ [])) (sym same_assembler) acc.stands;
      last_is = ap last_number same_assembler ∙ acc.last_is;
      limits = subst (λ (a : Assembler). SameLimits old.assembler a) (sym same_assembler) acc.limits;
      tells = ap (map told_item) acc.items_are ∙ h.event_is.tells;
      parts = ends_in cs c d (event_parts e) h.event_is.parts acc.parts_are;
    }

  pub known_judged : (r : Result (Option Event) EndFault) → first_reason (refused_reasons old cs c) ≡ None
      → Judged (unasked_reasons mid c.request) (IsDeliveredWith mid c.request c.token (ends c) d new) r
      → Judged (known_reasons old cs c) (IsTakenWith old cs c new) r
  known_judged r none j =
      judged_behind (refused_reasons old cs c) (unasked_reasons old c.request) (IsDeliveredWith mid c.request c.token (ends c) d new) (IsTakenWith old cs c new)
      r none both_taken
      (subst (λ (t : Talking). Judged (unasked_reasons t c.request) (IsDeliveredWith mid c.request c.token (ends c) d new) r) acc.new_is j)
