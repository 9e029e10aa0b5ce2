-- What an open channel makes of MSG and CLO.
use Rattle.std.proofs.Common.{◌≡◌, ℕ, ◌+◌, Bool, true, false, IsTrue, not, eqb, List, [], ◌∷◌, ◌++◌, Option, Some}
use Rattle.std.proofs.Common.{None, Err, option_map, refl, sym, ◌∙◌, ap, subst, arith, map, length, length-append}
use Rattle.std.specs.Prelude.{IsFalse}
use Rattle.ua_builtin.specs.Reasons.{first_reason, renamed_reason}
use Rattle.ua_builtin.proofs.FirstReasons.{first_behind, first_reason-map}
use Rattle.ua_frame.specs.declared.limits.Limits.{Limits}
use Rattle.ua_chunk.specs.declared.chunk.Chunk.{Chunk}
use Rattle.ua_chunk.specs.declared.fault.AssembleFault.{AssembleFault}
use Rattle.ua_chunk.specs.declared.fault.AssembleFault.TheVariants.{Sequence, Unreadable, TooManyOpen, MessageTooLarge, TooManyChunks, OutOfMemory, Closed}
use Rattle.ua_chunk.specs.declared.assembler.Assembler.{Assembler}
use Rattle.ua_chunk.specs.declared.delivered.Delivered.{Delivered}
use Rattle.ua_chunk.specs.Assembling.{SameLimits, last_number, octet_limit, chunk_limit}
use Rattle.ua_chunk.specs.Assembling as assembling
use Rattle.ua_chunk.specs.Delivered.{given}
use Rattle.ua_chunk.specs.Gathered.{bodies, gathered}
use Rattle.ua_chunk.specs.Refusal.{IsFor, reasons, chunk_refusal}
use Rattle.ua_chunk.specs.Sequence.{may_follow}
use Rattle.ua_channel.specs.declared.running.Running.{Running}
use Rattle.ua_chunk.specs.View.{delivered_items, HasParts}
use Rattle.ua_channel.specs.declared.server_event.Event.{Event}
use Rattle.ua_channel.specs.declared.server_event.Event.TheVariants as event
use Rattle.ua_channel.specs.declared.end_fault.EndFault.{EndFault}
use Rattle.ua_channel.specs.declared.end_fault.EndFault.TheVariants as end_fault
use Rattle.ua_channel.specs.declared.server_opening.Opened.{Opened}
use Rattle.ua_channel.specs.Agreement.{Agreement}
use Rattle.ua_channel.specs.Content.{Content, Opening, opening_of}
use Rattle.ua_channel.specs.Content.Content.{Opens, Sends, Closes}
use Rattle.ua_channel.specs.Received.{Received, number_or, after}
use Rattle.ua_channel.specs.inside.Parts.{MayEndIn, parts_in}
use Rattle.ua_channel.specs.ServerEvents.{server_told_of_event, parts_of_event}
use Rattle.ua_channel.specs.inside.EndFaults.{fault_code, of_chunk_fault}
use Rattle.ua_channel.specs.inside.ServerParts.{IsRefusalFor, IsRefused, JudgesOpening, OpensSo, TakesSo, ids_reasons, told_list}
use Rattle.ua_channel.specs.ServerStands.{HasGreeted, Stays}
use Rattle.ua_channel.specs.ServerRefusals.{last_used, or_first, server_reasons}
use Rattle.ua_channel.specs.ServerTold.{Told, Told as told, told_under, issued}
use Rattle.ua_channel.proofs.MessageParts.{ends_in}

-- the code of a fault of the assembler
abbrev pub refused_code : AssembleFault → ℕ
refused_code fault = fault_code 0x80B8_0000 fault

-- a MSG is judged by its ids, and then as the assembler judges its chunk
pub judged_sends : (limits : Limits) (channel : ℕ) (before : Received) (c : Chunk) → first_reason (server_reasons limits channel before (Sends c))
    ≡ first_reason (ids_reasons c channel (last_used before) (issued before) ++ map (renamed_reason refused_code)
    (reasons limits.max_message_size limits.max_chunk_count before.last before.messages c))
judged_sends limits channel before c = refl

-- a CLO is judged by its ids, and then by its number
pub judged_closes : (limits : Limits) (channel : ℕ) (before : Received) (c : Chunk) → first_reason (server_reasons limits channel before (Closes c))
    ≡ first_reason (ids_reasons c channel (last_used before) (issued before) ++ (0x8088_0000, not (may_follow before.last c.sequence)) ∷ [])
judged_closes limits channel before c = refl

module _ (limits : Limits) (r : Running) (before : Received) (channel : ℕ) (c : Chunk) (stays : Stays limits r before) where
  pub ids_as : ids_reasons c channel (last_used before) (issued before) ≡ ids_reasons c channel r.used r.issued
  ids_as = ap (λ (n : ℕ). ids_reasons c channel n (issued before)) stays.used_is ∙ ap (ids_reasons c channel r.used) stays.issued_is

  -- its ids are good
  refusal_as : chunk_refusal (octet_limit r.assembler) (chunk_limit r.assembler) (last_number r.assembler) before.messages c
      ≡ chunk_refusal limits.max_message_size limits.max_chunk_count before.last before.messages c
  refusal_as =
      ap (λ (n : ℕ). chunk_refusal n (chunk_limit r.assembler) (last_number r.assembler) before.messages c) stays.octets
      ∙ (ap (λ (n : ℕ). chunk_refusal limits.max_message_size n (last_number r.assembler) before.messages c) stays.chunks
      ∙ ap (λ (o : Option ℕ). chunk_refusal limits.max_message_size limits.max_chunk_count o before.messages c) (sym stays.last_is))

  pub sends_judged : first_reason (ids_reasons c channel r.used r.issued) ≡ None → first_reason (server_reasons limits channel before (Sends c))
      ≡ option_map refused_code (chunk_refusal (octet_limit r.assembler) (chunk_limit r.assembler) (last_number r.assembler) before.messages c)
  sends_judged e =
      judged_sends limits channel before c
      ∙ (first_behind (ids_reasons c channel (last_used before) (issued before))
      (map (renamed_reason refused_code) (reasons limits.max_message_size limits.max_chunk_count before.last before.messages c)) (ap first_reason ids_as
      ∙ e)
      ∙ (first_reason-map refused_code (reasons limits.max_message_size limits.max_chunk_count before.last before.messages c)
      ∙ ap (option_map refused_code) (sym refusal_as)))

  -- ---- a MSG

  -- a chunk that is taken
  pub takes_message : (d : Option Delivered) (e : Option Event) (new : Assembler) → first_reason (ids_reasons c channel r.used r.issued) ≡ None
      → chunk_refusal (octet_limit r.assembler) (chunk_limit r.assembler) (last_number r.assembler) before.messages c ≡ None
      → given before.messages c ≡ delivered_items d → HasParts d (bodies (gathered before.messages c))
      → told_list e ≡ map (told_under c.token) (delivered_items d)
      → parts_of_event e ≡ parts_in d → assembling.Stands new (before.messages ++ c ∷ []) → last_number new ≡ Some c.sequence → SameLimits r.assembler new
      → TakesSo limits channel before (Sends c) e × Stays limits (record r { assembler = new; used = c.token }) (after before (Sends c))
  takes_message d e new ids good items parts event same_parts stands last same = (
    record {
      accepted = sends_judged ids ∙ ap (option_map refused_code) good;
      tells = ap (map (told_under c.token)) items
          ∙ sym event;
      parts = ends_in before.messages c d (parts_of_event e) same_parts parts;
    },
    record {
      hello = stays.hello;
      hello_is = stays.hello_is;
      agreement_is = stays.agreement_is;
      large = stays.large;
      issued_is = stays.issued_is;
      some = stays.some;
      used_is = refl;
      last_is = sym last;
      assembles = stands;
      octets = sym same.octets ∙ stays.octets;
      chunks = sym same.chunks ∙ stays.chunks;
      goes_on = stays.goes_on;
    },
  )

  judged_fault : (fault : AssembleFault) → first_reason (ids_reasons c channel r.used r.issued) ≡ None
      → IsFor (chunk_refusal (octet_limit r.assembler) (chunk_limit r.assembler) (last_number r.assembler) before.messages c) fault
      → IsRefusalFor (IsRefused limits channel before (Sends c)) (of_chunk_fault 0x80B8_0000 fault)
  judged_fault Sequence ids h = sends_judged ids ∙ ap (option_map refused_code) h
  judged_fault Unreadable ids h = sends_judged ids ∙ ap (option_map refused_code) h
  judged_fault TooManyOpen ids h = sends_judged ids ∙ ap (option_map refused_code) h
  judged_fault MessageTooLarge ids h = sends_judged ids ∙ ap (option_map refused_code) h
  judged_fault TooManyChunks ids h = sends_judged ids ∙ ap (option_map refused_code) h
  judged_fault OutOfMemory ids h = tt
  judged_fault Closed ids h = h

  -- a chunk that is refused
  pub refuses_message : (fault : AssembleFault) (e : EndFault) → first_reason (ids_reasons c channel r.used r.issued) ≡ None
      → IsFor (chunk_refusal (octet_limit r.assembler) (chunk_limit r.assembler) (last_number r.assembler) before.messages c) fault
      → e ≡ of_chunk_fault 0x80B8_0000 fault
      → IsRefusalFor (IsRefused limits channel before (Sends c)) e
  refuses_message fault e ids h is = subst (IsRefusalFor (IsRefused limits channel before (Sends c))) (sym is) (judged_fault fault ids h)

-- ---- an OPN

-- an event that a token was issued hands no message out
opened_in : (before : List Chunk) (c : Content) (e : Option Event) (id handle token lifetime : ℕ) → told_list e ≡ told.Opened id handle token lifetime ∷ []
    → MayEndIn before c (parts_of_event e)
opened_in before c None id handle token lifetime is = tt
opened_in before c (Some (event.Agreed a)) id handle token lifetime is = tt
opened_in before c (Some (event.Opened i h t l)) id handle token lifetime is = tt
opened_in before c (Some (event.Asked i t message)) id handle token lifetime is = absurd cc
opened_in before c (Some (event.Aborted i)) id handle token lifetime is = tt
opened_in before c (Some event.Closed) id handle token lifetime is = tt

-- what a fault of an OPN comes to
pub refuses_opening : (limits : Limits) (channel count : ℕ) (before : Received) (body : List ℕ) (e : EndFault) → issued before ≡ count
    → JudgesOpening channel count body (Err e) → IsRefusalFor (IsRefused limits channel before (Opens (opening_of body))) e
refuses_opening limits channel count before body (end_fault.Refused code) is h = h limits before is
refuses_opening limits channel count before body (end_fault.Peer code) is h = h
refuses_opening limits channel count before body end_fault.OutOfMemory is h = tt
refuses_opening limits channel count before body end_fault.Closed is h = h

module _ (limits : Limits) (r : Running) (before : Received) (channel : ℕ) (body : List ℕ) (o : Opened) (stays : Stays limits r before)
    (so : OpensSo channel r.issued body o) where
  remain : first_reason (server_reasons limits channel before (Opens (opening_of body)))
      ≡ first_reason ((0x8088_0000, not (may_follow before.last o.sequence)) ∷ (0x8081_0000, eqb (issued before) 4294967295) ∷ [])
  remain = so.remain limits before stays.issued_is

  -- its number does not follow
  pub refuses_number : IsFalse (may_follow (last_number r.assembler) o.sequence) → first_reason (server_reasons limits channel before (Opens (opening_of body)))
      ≡ Some 0x8088_0000
  refuses_number e = remain ∙ ap (λ (b : Bool). first_reason ((0x8088_0000, not b) ∷ (0x8081_0000, eqb (issued before) 4294967295) ∷ []))
      (ap (λ (n : Option ℕ). may_follow n o.sequence) stays.last_is ∙ e)

  pub refuses_renewal : (fault : AssembleFault) (e : EndFault) → fault ≡ Sequence → IsFalse (may_follow (last_number r.assembler) o.sequence)
      → e ≡ of_chunk_fault 0x80B8_0000 fault → IsRefusalFor (IsRefused limits channel before (Opens (opening_of body))) e
  refuses_renewal fault e first breaks is =
      subst (IsRefusalFor (IsRefused limits channel before (Opens (opening_of body)))) (sym is)
      (subst (λ (x : AssembleFault). IsRefusalFor (IsRefused limits channel before (Opens (opening_of body))) (of_chunk_fault 0x80B8_0000 x)) (sym first)
      (refuses_number breaks))

  remain_numbered : IsTrue (may_follow (last_number r.assembler) o.sequence) → first_reason (server_reasons limits channel before (Opens (opening_of body)))
      ≡ first_reason ((0x8081_0000, eqb r.issued 4294967295) ∷ [])
  remain_numbered e =
      remain
      ∙ (ap (λ (b : Bool). first_reason ((0x8088_0000, not b) ∷ (0x8081_0000, eqb (issued before) 4294967295) ∷ []))
      (ap (λ (n : Option ℕ). may_follow n o.sequence) stays.last_is ∙ e)
      ∙ ap (λ (n : ℕ). first_reason ((0x8081_0000, eqb n 4294967295) ∷ [])) stays.issued_is)

  -- no token is left
  pub refuses_token : IsTrue (may_follow (last_number r.assembler) o.sequence) → eqb r.issued 4294967295 ≡ true
      → first_reason (server_reasons limits channel before (Opens (opening_of body))) ≡ Some 0x8081_0000
  refuses_token e full = remain_numbered e ∙ ap (λ (b : Bool). first_reason ((0x8081_0000, b) ∷ [])) full

  -- a token is issued
  pub takes_renewal : (e : Option Event) (new : Assembler) → IsTrue (may_follow (last_number r.assembler) o.sequence) → eqb r.issued 4294967295 ≡ false
      → told_list e ≡ told.Opened o.request o.handle (r.issued + 1) o.lifetime ∷ []
      → assembling.Stands new before.messages → last_number new ≡ Some o.sequence → SameLimits r.assembler new
      → TakesSo limits channel before (Opens (opening_of body)) e × Stays limits (record r { assembler = new; issued = r.issued + 1 })
      (after before (Opens (opening_of body)))
  takes_renewal e new follows left event stands last same = (
    record {
      accepted = remain_numbered follows ∙ ap (λ (b : Bool). first_reason ((0x8081_0000, b) ∷ [])) left;
      tells = so.tells limits before stays.issued_is ∙ sym event;
      parts = opened_in before.messages (Opens (opening_of body)) e o.request o.handle (r.issued + 1) o.lifetime event;
    },
    record {
      hello = stays.hello;
      hello_is = stays.hello_is;
      agreement_is = stays.agreement_is;
      large = stays.large;
      issued_is = length-append before.openings (opening_of body ∷ []) ∙ ap (λ (n : ℕ). n + 1) stays.issued_is;
      some = omega arith;
      used_is = stays.used_is;
      last_is = ap (number_or before.last) so.numbers_are ∙ sym last;
      assembles = stands;
      octets = sym same.octets ∙ stays.octets;
      chunks = sym same.chunks ∙ stays.chunks;
      goes_on = stays.goes_on;
    },
  )

-- the first OPN
pub takes_first : (limits : Limits) (channel : ℕ) (before : Received) (a : Agreement) (body : List ℕ) (o : Opened) (e : Event) (new : Assembler)
    → HasGreeted limits a before → OpensSo channel 0 body o → server_told_of_event e ≡ told.Opened o.request o.handle 1 o.lifetime
    → assembling.Stands new [] → last_number new ≡ Some o.sequence → octet_limit new ≡ limits.max_message_size → chunk_limit new ≡ limits.max_chunk_count
    → TakesSo limits channel before (Opens (opening_of body)) (Some e) × Stays limits (record { agreement = a; assembler = new; issued = 1; used = 1 })
    (after before (Opens (opening_of body)))
takes_first limits channel before a body o e new g so event stands last octets chunks =
    let none : before.openings ≡ [] = ap (λ (b : Received). b.openings) g.before_is in
    let count : issued before ≡ 0 = ap length none in (
      record {
        accepted =
            so.remain limits before count
            ∙ (ap (λ (n : Option ℕ). first_reason ((0x8088_0000, not (may_follow n o.sequence)) ∷ (0x8081_0000, eqb (issued before) 4294967295) ∷ []))
            (ap (λ (b : Received). b.last) g.before_is)
            ∙ ap (λ (n : ℕ). first_reason ((0x8081_0000, eqb n 4294967295) ∷ [])) count);
        tells = so.tells limits before count ∙ ap (λ (t : Told). t ∷ []) (sym event);
        parts = opened_in before.messages (Opens (opening_of body)) (Some e) o.request o.handle 1 o.lifetime (ap (λ (t : Told). t ∷ []) event);
      },
      record {
        hello = g.hello;
        hello_is = ap (λ (b : Received). b.hello) g.before_is;
        agreement_is = g.agreement_is;
        large = g.large;
        issued_is = ap (λ (os : List Opening). length (os ++ opening_of body ∷ [])) none;
        some = omega arith;
        used_is = ap (λ (b : Received). or_first b.used) g.before_is;
        last_is = ap (number_or before.last) so.numbers_are ∙ sym last;
        assembles = subst (assembling.Stands new) (sym (ap (λ (b : Received). b.messages) g.before_is)) stands;
        octets = octets;
        chunks = chunks;
        goes_on = ap (λ (b : Received). b.closed) g.before_is;
      },
    )
