-- What a call of a client's channel answers, and what it appends.
use Rattle.std.proofs.Common.{◌≡◌, ℕ, ◌+◌, ◌-◌, ◌≤◌, List, [], ◌∷◌, ◌++◌, Bool, true, false, Some, None, ◌||◌, length, drop, Fits, w32}
use Rattle.std.proofs.Common.{refl, sym, ◌∙◌, ap, subst, arith, leb, length-append}
use Rattle.std.proofs.lemmas.List.{drop_at, length-drop}
use Rattle.ua_builtin.specs.Reasons.{first_reason}
use Rattle.ua_chunk.specs.Cutting.{IsCutFor, chunks_octets, chunks_of, cut_refusal, number_after, pieces}
use Rattle.ua_chunk.specs.Refusal.{passes}
use Rattle.ua_chunk.specs.declared.fault.CutFault.{CutFault}
use Rattle.ua_chunk.specs.declared.fault.CutFault.TheVariants as cut_fault
use Rattle.ua_chunk.specs.declared.lane.Lane.{Lane}
use Rattle.ua_channel.specs.ClientAsks.{Calls, IsAskFaultFor, ask_reasons, call_lane, is_too_large, most_pending, no_id, room_of}
use Rattle.ua_channel.specs.ClientSends.{appended}
use Rattle.ua_channel.specs.inside.ClientAsking.{more_reasons, of_cut_fault}
use Rattle.ua_channel.specs.declared.client.fault.AskFault.{AskFault}
use Rattle.ua_channel.specs.declared.client.fault.AskFault.TheVariants.{Exhausted, RequestTooLarge, TooManyPending}
use Rattle.ua_channel.specs.declared.client.talking.Talking.{Talking}

-- ---- the first of some reasons

full_first : (a b large : Bool) (fault : AskFault) → first_reason ((TooManyPending, a) ∷ (Exhausted, b) ∷ []) ≡ Some fault
    → IsAskFaultFor (first_reason ((TooManyPending, a) ∷ (Exhausted, b) ∷ (RequestTooLarge, large) ∷ [])) fault
full_first true b large fault e = let is : TooManyPending ≡ fault = cc in subst (λ (f : AskFault). IsAskFaultFor (Some TooManyPending) f) is refl
full_first false true large fault e = let is : Exhausted ≡ fault = cc in subst (λ (f : AskFault). IsAskFaultFor (Some Exhausted) f) is refl
full_first false false large fault e = absurd cc

cut_first : (a b o k : Bool) (fault : CutFault) → first_reason ((TooManyPending, a) ∷ (Exhausted, b) ∷ []) ≡ None
    → IsCutFor (first_reason ((cut_fault.TooManyOctets, o) ∷ (cut_fault.TooManyChunks, k) ∷ [])) fault
    → IsAskFaultFor (first_reason ((TooManyPending, a) ∷ (Exhausted, b) ∷ (RequestTooLarge, o || k) ∷ [])) (of_cut_fault fault)
cut_first true b o k fault e cut = absurd cc
cut_first false true o k fault e cut = absurd cc
cut_first false false true k cut_fault.TooManyOctets e cut = refl
cut_first false false true k cut_fault.TooManyChunks e cut = refl
cut_first false false true k cut_fault.OutOfMemory e cut = absurd cc
cut_first false false false true cut_fault.TooManyOctets e cut = refl
cut_first false false false true cut_fault.TooManyChunks e cut = refl
cut_first false false false true cut_fault.OutOfMemory e cut = absurd cc
cut_first false false false false cut_fault.TooManyOctets e cut = absurd cc
cut_first false false false false cut_fault.TooManyChunks e cut = absurd cc
cut_first false false false false cut_fault.OutOfMemory e cut = refl

call_first : (a b o k : Bool) → first_reason ((TooManyPending, a) ∷ (Exhausted, b) ∷ []) ≡ None
    → first_reason ((cut_fault.TooManyOctets, o) ∷ (cut_fault.TooManyChunks, k) ∷ []) ≡ None
    → first_reason ((TooManyPending, a) ∷ (Exhausted, b) ∷ (RequestTooLarge, o || k) ∷ []) ≡ None
call_first true b o k e cut = absurd cc
call_first false true o k e cut = absurd cc
call_first false false true k e cut = absurd cc
call_first false false false true e cut = absurd cc
call_first false false false false e cut = refl

second_unset : (a b : Bool) → first_reason ((TooManyPending, a) ∷ (Exhausted, b) ∷ []) ≡ None → b ≡ false
second_unset true b e = absurd cc
second_unset false true e = absurd cc
second_unset false false e = refl

-- ---- what a call answers

-- what keeps it back whatever its body
pub full_answers : (t : Talking) (body : List ℕ) (fault : AskFault) → first_reason (more_reasons t 0) ≡ Some fault
    → IsAskFaultFor (first_reason (ask_reasons t 0 body)) fault
full_answers t body fault e =
    full_first (leb most_pending (length t.pending.items + 0)) (leb no_id (t.next + 0)) (is_too_large t.agreed.ack body) fault e

-- how a body that is not split is refused
pub cut_answers : (t : Talking) (body : List ℕ) (lane : Lane) (fault : CutFault) (told : AskFault) → first_reason (more_reasons t 0) ≡ None
    → lane ≡ call_lane t.agreed.ack t.channel t.newest → IsCutFor (cut_refusal lane body) fault → told ≡ of_cut_fault fault
    → IsAskFaultFor (first_reason (ask_reasons t 0 body)) told
cut_answers t body lane fault told e is cut by =
    subst (IsAskFaultFor (first_reason (ask_reasons t 0 body))) (sym by) (cut_first (leb most_pending (length t.pending.items + 0)) (leb no_id (t.next + 0))
    (passes t.agreed.ack.max_message_size (length body)) (passes t.agreed.ack.max_chunk_count (length (pieces (room_of t.agreed.ack) body))) fault e
    (subst (λ (l : Lane). IsCutFor (cut_refusal l body) fault) is cut))

-- nothing keeps a body back that is split
pub call_answers : (t : Talking) (body : List ℕ) (lane : Lane) → first_reason (more_reasons t 0) ≡ None → lane ≡ call_lane t.agreed.ack t.channel t.newest
    → cut_refusal lane body ≡ None → first_reason (ask_reasons t 0 body) ≡ None
call_answers t body lane e is cut =
    call_first (leb most_pending (length t.pending.items + 0)) (leb no_id (t.next + 0)) (passes t.agreed.ack.max_message_size (length body))
    (passes t.agreed.ack.max_chunk_count (length (pieces (room_of t.agreed.ack) body))) e (subst (λ (l : Lane). cut_refusal l body ≡ None) is cut)

-- there is a RequestId after the next one
pub id_fits : (t : Talking) → first_reason (more_reasons t 0) ≡ None → Fits w32 (t.next + 1)
id_fits t e =
    let some : leb 4294967295 (t.next + 0) ≡ false = second_unset (leb 64 (length t.pending.items + 0)) (leb 4294967295 (t.next + 0)) e in
    grind (some, arith)

-- ---- the bytes of a call behind others

pub behind_those : (before now added : List ℕ) → now ≡ before ++ added → now ≡ before ++ appended before now
behind_those before now added e = e ∙ ap (λ (t : List ℕ). before ++ t) (sym (ap (drop (length before)) e ∙ drop_at before added (length before) refl))

pub no_fewer : (m n : ℕ) (before now added : List ℕ) → m ≡ length before → n ≡ length now → now ≡ before ++ added → m ≤ n
no_fewer m n before now added e f g = omega (arith, e, f, ap length g, length-append before added)

pub appended_len : (m n : ℕ) (before now : List ℕ) → m ≡ length before → n ≡ length now → n - m ≡ length (appended before now)
appended_len m n before now e f = omega (arith, e, f, length-drop (length before) now)

pub calls_behind : (t : Talking) (lane : Lane) (first number : ℕ) (body before now : List ℕ) (after next : ℕ)
    → lane ≡ call_lane t.agreed.ack t.channel t.newest → first ≡ number → now ≡ before ++ chunks_octets (chunks_of lane body first t.next)
    → after ≡ number_after first (pieces lane.room body) → next ≡ after → Calls t number body t.next (appended before now) next
calls_behind t lane first number body before now after next is numbered put from goes =
    let own = call_lane t.agreed.ack t.channel t.newest in
    record {
      id_is = refl;
      out_is = ap (drop (length before)) put ∙ drop_at before (chunks_octets (chunks_of lane body first t.next)) (length before) refl
          ∙ ap (λ (l : Lane). chunks_octets (chunks_of l body first t.next)) is
          ∙ ap (λ (n : ℕ). chunks_octets (chunks_of own body n t.next)) numbered;
      next_is = goes ∙ from ∙ ap (λ (l : Lane). number_after first (pieces l.room body)) is ∙ ap (λ (n : ℕ). number_after n (pieces own.room body)) numbered;
    }
