-- What is answered to events, and to whole pieces.
use Rattle.std.proofs.Common.{◌≡◌, ℕ, ◌<◌, ◌≤◌, List, ◌++◌, true, false, Some, None, Result, Ok, Err, refl, sym, ◌∙◌, ap, subst, length, take}
use Rattle.std.proofs.Math.Seq.{take-length}
use Rattle.ua_builtin.specs.declared.date_time.DateTime.{DateTime}
use Rattle.ua_frame.specs.Frames.{frame_octets}
use Rattle.ua_chunk.specs.Sequence.{next_number}
use Rattle.ua_channel.specs.declared.server.ServerChannel.{ServerChannel}
use Rattle.ua_channel.specs.declared.server_event.Event.{Event}
use Rattle.ua_channel.specs.declared.server_event.Event.TheVariants as inner
use Rattle.ua_channel.specs.declared.server_event.ServerEvent.{ServerEvent}
use Rattle.ua_channel.specs.declared.server_event.ServerEvent.TheVariants.{NeedMore, Send, Asked, Aborted}
use Rattle.ua_channel.specs.declared.server_event.ServerEvent.TheVariants as event
use Rattle.ua_channel.specs.declared.server_fault.ChannelFault.{ChannelFault}
use Rattle.ua_channel.specs.declared.server_fault.ChannelFault.TheVariants as fault
use Rattle.ua_channel.specs.declared.end_fault.EndFault.{EndFault}
use Rattle.ua_channel.specs.declared.end_fault.EndFault.TheVariants as end_fault
use Rattle.ua_channel.specs.ServerAnswers.{SendsOctets, AnswersAt}
use Rattle.ua_channel.specs.inside.ServerSteps.{StandsWith, AnswersTo}
use Rattle.ua_channel.specs.inside.Ends.{EndNexts}
use Rattle.ua_channel.specs.inside.EndFaults.{of_end_fault}
use Rattle.ua_channel.specs.ServerEvents.{is_closed}
use Rattle.ua_channel.specs.ServerSends.{opened_frame}
use Rattle.ua_channel.specs.ServerStands.{server_side, channel_of, limits_of, next_of, Goes, GoesTelling, IsDone, StarvedAt}
use Rattle.ua_channel.specs.ServerTold.{Told, Told as told}
use Rattle.ua_channel.specs.declared.numbers.Numbers.{Numbers}
use Rattle.ua_channel.proofs.Servers.{starved_behind}

-- a channel goes on telling where the number of its next chunk moves on
pub telling_counted : (x : ServerChannel) (numbers : Numbers) (octets : List ℕ) (before : List Told) (e : Told) → GoesTelling x octets before e
    → GoesTelling (record x { end = record x.end { numbers = numbers } }) octets before e
telling_counted x numbers octets before e g = record {
  frames = g.frames;
  frame = g.frame;
  stands = record { run = g.stands.run; placed = tt; reader_is = g.stands.reader_is; phase_is = g.stands.phase_is; bound_is = g.stands.bound_is };
  told_is = g.told_is;
  tells = g.tells;
}

-- no other event closes a channel
pub no_close : {A : Type 0} (e : Event) → is_closed e ≡ false → e ≡ inner.Closed → A
no_close e goes_on is = let closed : is_closed e ≡ true = ap is_closed is in absurd cc

-- what is sent where a token was issued
pub opened_sends : (x : ServerChannel) (numbers : Numbers) (moment : DateTime) (octets sent : List ℕ) (before : List Told) (e : Event)
    (id handle token lifetime number : ℕ) → e ≡ inner.Opened id handle token lifetime → StandsWith e x octets before → number ≡ next_of x
    → numbers.next ≡ next_number (next_of x)
    → sent ≡ frame_octets (opened_frame (channel_of x) number id handle token lifetime moment)
    → SendsOctets (channel_of x) (next_of x) moment sent (record x { end = record x.end { numbers = numbers } }) octets before
opened_sends x numbers moment octets sent before e id handle token lifetime number is tells number_is next sent_is = record {
  said = told.Opened id handle token lifetime;
  are_sent = sent_is ∙ ap (λ (n : ℕ). frame_octets (opened_frame (channel_of x) n id handle token lifetime moment)) number_is;
  goes = telling_counted x numbers octets before (told.Opened id handle token lifetime) (subst (λ (v : Event). StandsWith v x octets before) is tells).0;
  counted = next;
}

-- ---- whole pieces

-- where it stands behind the frame of an event for whose answer memory was refused
starved_event : (mid d : ServerChannel) (octets : List ℕ) (told : List Told) (e : Event) (answer : Result ServerEvent ChannelFault)
    → limits_of d ≡ limits_of mid → channel_of d ≡ channel_of mid → IsDone d → StandsWith e mid octets told → (e ≡ inner.Closed → answer ≡ Ok event.Closed)
    → answer ≡ Err fault.OutOfMemory
    → StarvedAt d octets told
starved_event mid d octets told (inner.Agreed a) answer limits channel done h closes is = starved_behind mid d octets told _ limits channel done h.0
starved_event mid d octets told (inner.Opened id handle token lifetime) answer limits channel done h closes is =
    starved_behind mid d octets told _ limits channel done h.0
starved_event mid d octets told (inner.Asked id token message) answer limits channel done h closes is =
    starved_behind mid d octets told _ limits channel done h.0
starved_event mid d octets told (inner.Aborted id) answer limits channel done h closes is = starved_behind mid d octets told _ limits channel done h.0
starved_event mid d octets told inner.Closed answer limits channel done h closes is = let no = sym (closes refl) ∙ is in absurd cc

counts_of : (channel number : ℕ) (moment : DateTime) (piece : List ℕ) (n : ℕ) (answer : Result ServerEvent ChannelFault) (new : ServerChannel) (octets : List ℕ)
    (before : List Told) → 0 < n → n ≤ length piece → (answer ≡ Err fault.OutOfMemory → IsDone new → StarvedAt new (octets ++ take n piece) before)
    → AnswersTo channel number moment answer new (octets ++ take n piece) before → AnswersAt channel number moment piece n answer new octets before
counts_of channel number moment piece n (Ok NeedMore) new octets before some within starves h = absurd h
counts_of channel number moment piece n (Ok (Send sent)) new octets before some within starves h = ((some, within), h)
counts_of channel number moment piece n (Ok (Asked id message)) new octets before some within starves h = ((some, within), h)
counts_of channel number moment piece n (Ok (Aborted id)) new octets before some within starves h = ((some, within), h)
counts_of channel number moment piece n (Ok event.Closed) new octets before some within starves h = ((some, within), h)
counts_of channel number moment piece n (Err (fault.Refused code err)) new octets before some within starves h = absurd h
counts_of channel number moment piece n (Err fault.OutOfMemory) new octets before some within starves h = (within, starves refl h)
counts_of channel number moment piece n (Err fault.Closed) new octets before some within starves h = h

-- an event
pub answers_event : (channel channel' number number' : ℕ) (moment : DateTime) (piece : List ℕ) (n : ℕ) (e : Event) (answer : Result ServerEvent ChannelFault)
    (mid new : ServerChannel) (octets : List ℕ) (before : List Told) → channel' ≡ channel → number' ≡ number
    → EndNexts server_side piece n (Ok (Some e)) mid.end tt octets before
    → (StandsWith e mid (octets ++ take n piece) before → AnswersTo channel' number' moment answer new (octets ++ take n piece) before)
    → limits_of new ≡ limits_of mid → channel_of new ≡ channel_of mid → (e ≡ inner.Closed → answer ≡ Ok event.Closed)
    → AnswersAt channel number moment piece n answer new octets before
answers_event channel channel' number number' moment piece n e answer mid new octets before same again h by limits ids closes =
    counts_of channel number moment piece n answer new octets before h.0 h.1
    (λ failed done. starved_event mid new (octets ++ take n piece) before e answer limits ids done h.2 closes failed)
    (subst (λ (k : ℕ). AnswersTo channel k moment answer new (octets ++ take n piece) before) again
    (subst (λ (k : ℕ). AnswersTo k number' moment answer new (octets ++ take n piece) before) same (by h.2)))

-- no event
pub answers_nothing : (channel number : ℕ) (moment : DateTime) (piece : List ℕ) (n : ℕ) (new : ServerChannel) (octets : List ℕ) (before : List Told)
    → EndNexts server_side piece n (Ok None) new.end tt octets before → next_of new ≡ number
    → AnswersAt channel number moment piece n (Ok NeedMore) new octets before
answers_nothing channel number moment piece n new octets before h same =
    (h.0, (subst (λ (z : List ℕ). Goes new (octets ++ z) before) (sym (ap (λ (k : ℕ). take k piece) h.0 ∙ take-length piece)) h.1, same))

answers_end : (channel number : ℕ) (moment : DateTime) (piece : List ℕ) (n : ℕ) (s : EndFault) (new : ServerChannel) (octets : List ℕ) (before : List Told)
    → EndNexts server_side piece n (Err s) new.end tt octets before → AnswersAt channel number moment piece n (Err (of_end_fault s)) new octets before
answers_end channel number moment piece n (end_fault.Refused code) new octets before h = (h.0, h.1, refl)
answers_end channel number moment piece n (end_fault.Peer code) new octets before h = absurd h.1
answers_end channel number moment piece n end_fault.OutOfMemory new octets before h = h
answers_end channel number moment piece n end_fault.Closed new octets before h = absurd h.1

-- a fault
pub answers_fault : (channel number : ℕ) (moment : DateTime) (piece : List ℕ) (n : ℕ) (s : EndFault) (f : ChannelFault) (new : ServerChannel) (octets : List ℕ)
    (before : List Told) → EndNexts server_side piece n (Err s) new.end tt octets before → f ≡ of_end_fault s
    → AnswersAt channel number moment piece n (Err f) new octets before
answers_fault channel number moment piece n s f new octets before h is =
    subst (λ (x : ChannelFault). AnswersAt channel number moment piece n (Err x) new octets before) (sym is)
    (answers_end channel number moment piece n s new octets before h)

-- ---- after want of memory

-- with another bound
starved_bound : (x new : ServerChannel) (bound : ℕ) (octets : List ℕ) (told : List Told) → new ≡ record x { end = record x.end { bound = bound } }
    → StarvedAt x octets told → StarvedAt new octets told
starved_bound x new bound octets told is s =
    subst (λ (z : ServerChannel). StarvedAt z octets told) (sym is)
    (record {
      done = record { phase = s.done.phase; empty = s.done.empty };
      frames = s.frames;
      rest = s.rest;
      whole = s.whole;
      good = s.good;
      told_is = s.told_is;
      header = s.header;
      sound = s.sound;
      within = s.within;
    })

-- a channel that ended for want of memory is as it was but for its bound
pub starved_with : (channel number : ℕ) (moment : DateTime) (piece : List ℕ) (n bound : ℕ) (f : ChannelFault) (x new : ServerChannel) (octets : List ℕ)
    (before : List Told) → f ≡ fault.OutOfMemory → new ≡ record x { end = record x.end { bound = bound } }
    → AnswersAt channel number moment piece n (Err f) x octets before
    → AnswersAt channel number moment piece n (Err f) new octets before
starved_with channel number moment piece n bound f x new octets before is new_is h =
    let starved : AnswersAt channel number moment piece n (Err fault.OutOfMemory) x octets before =
    subst (λ (g : ChannelFault). AnswersAt channel number moment piece n (Err g) x octets before) is h in
    let done : AnswersAt channel number moment piece n (Err fault.OutOfMemory) (record x { end = record x.end { bound = bound } }) octets before =
    (starved.0, starved_bound x (record x { end = record x.end { bound = bound } }) bound (octets ++ take n piece) before refl starved.1) in
    subst (λ (y : ServerChannel). AnswersAt channel number moment piece n (Err f) y octets before) (sym new_is)
    (subst (λ (g : ChannelFault). AnswersAt channel number moment piece n (Err g) (record x { end = record x.end { bound = bound } }) octets before)
    (sym is) done)
