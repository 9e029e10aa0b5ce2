-- Messages that were given up are passed over.
use Rattle.std.specs.Prelude.{◌≡◌, ℕ, ◌+◌, ◌-◌, ◌≤◌, ◌<◌, true, false, List, [], ◌∷◌, ◌++◌, take, length, Result, Ok, Err}
use Rattle.std.proofs.Common.{refl, ◌∙◌, ap, append_assoc, arith}
use Rattle.ua_builtin.specs.declared.date_time.DateTime.{DateTime}
use Rattle.ua_channel_laws.proofs.ServerReadsOnce.{goes_behind}
use Rattle.ua_channel.proofs.Moving.{rest_of, rest-length, joined, within-piece}
use Rattle.ua_channel.specs.ServerAnswers.{Counts, EventHandedOut, AnswersAt, Progress}
use Rattle.ua_channel.specs.ServerStands.{limits_of, channel_of, next_of, IsDone, Goes}
use Rattle.ua_channel.specs.ServerTold.{Told, GaveUp}
use Rattle.ua_channel.specs.declared.server.ServerChannel.{ServerChannel}
use Rattle.ua_channel.specs.declared.server_event.ServerEvent.{ServerEvent}
use Rattle.ua_channel.specs.declared.server_event.ServerEvent.TheVariants as event
use Rattle.ua_channel.specs.declared.server_fault.ChannelFault.{ChannelFault}
use Rattle.ua_channel.specs.declared.server_fault.ChannelFault.TheVariants as fault
use Rattle.ua_server.specs.Stepping.{AnswersBehind, given_up, is_given_up}

-- so many octets were taken, and all that they told is that messages were given up
pub record Passed (old new : ServerChannel) (piece : List ℕ) (taken : ℕ) : Type 0 where
  pub within : taken ≤ length piece
  pub some : 0 < length piece → 0 < taken
  pub limits : limits_of new ≡ limits_of old
  pub channel : channel_of new ≡ channel_of old
  pub alive : IsDone old → ⊥
  pub passed : (octets : List ℕ) (told : List Told) → Goes old octets told
      → (quiet : List ℕ) × Goes new (octets ++ take taken piece) (told ++ given_up quiet) × (next_of new ≡ next_of old)

one-more : (told : List Told) (quiet : List ℕ) (id : ℕ) → (told ++ given_up quiet) ++ GaveUp id ∷ [] ≡ told ++ given_up (quiet ++ id ∷ [])
one-more told quiet id = append_assoc told (given_up quiet) (GaveUp id ∷ []) ∙ rw (pushed quiet)
  where
    pushed : (ids : List ℕ) → given_up ids ++ GaveUp id ∷ [] ≡ given_up (ids ++ id ∷ [])
    pushed [] = refl
    pushed (i ∷ ids) = rw (pushed ids)

-- a message that was given up
gone : (channel number : ℕ) (moment : DateTime) (piece : List ℕ) (n : ℕ) (answer : Result ServerEvent ChannelFault) (new : ServerChannel) (octets : List ℕ)
    (before : List Told)
    → AnswersAt channel number moment piece n answer new octets before → is_given_up answer ≡ true
    → (id : ℕ) × Goes new (octets ++ take n piece) (before ++ GaveUp id ∷ []) × (next_of new ≡ number)
gone channel number moment piece n (Ok (event.Aborted id)) new octets before a e =
    (id, goes_behind new (octets ++ take n piece) before (GaveUp id) a.1.0, a.1.1)
gone channel number moment piece n (Ok event.NeedMore) new octets before a e = absurd cc
gone channel number moment piece n (Ok (event.Send sent)) new octets before a e = absurd cc
gone channel number moment piece n (Ok (event.Asked id message)) new octets before a e = absurd cc
gone channel number moment piece n (Ok event.Closed) new octets before a e = absurd cc
gone channel number moment piece n (Err f) new octets before a e = absurd cc

pub progress-within : (piece : List ℕ) (n : ℕ) (answer : Result ServerEvent ChannelFault) → Progress piece n answer → n ≤ length piece
progress-within piece n (Ok e) p = p.0
progress-within piece n (Err f) p = p

progress-some : (piece : List ℕ) (n : ℕ) (answer : Result ServerEvent ChannelFault) → Progress piece n answer → is_given_up answer ≡ true → 0 < length piece
    → 0 < n
progress-some piece n (Ok e) p g some = p.1 some
progress-some piece n (Err f) p g some = absurd cc

closed-not : (answer : Result ServerEvent ChannelFault) → answer ≡ Err fault.Closed → is_given_up answer ≡ true → ⊥
closed-not answer e g = let not : is_given_up answer ≡ false = ap is_given_up e in absurd cc

pub first-passed : (old new : ServerChannel) (moment : DateTime) (piece : List ℕ) (n : ℕ) (answer : Result ServerEvent ChannelFault)
    → ((octets : List ℕ) (told : List Told) → Goes old octets told → AnswersAt (channel_of old) (next_of old) moment piece n answer new octets told)
    → Progress piece n answer → (IsDone old → answer ≡ Err fault.Closed) → limits_of new ≡ limits_of old → channel_of new ≡ channel_of old
    → is_given_up answer ≡ true → Passed old new piece n
first-passed old new moment piece n answer answers progress closed limits channel e = record {
  within = progress-within piece n answer progress;
  some = progress-some piece n answer progress e;
  limits = limits;
  channel = channel;
  alive = λ d. closed-not answer (closed d) e;
  passed = λ octets told h. let g = gone (channel_of old) (next_of old) moment piece n answer new octets told (answers octets told h) e in (g.0 ∷ [], g.1, g.2);
}

pub fewer : (l m n d : ℕ) → m < l → d ≡ l - m → n ≤ d → (0 < d → 0 < n) → l - (m + n) < l - m
fewer l m n d h e k some = let more = some (omega (arith, h, e)) in omega (arith, h, e, k, more)

more-taken : (m n : ℕ) → 0 < m → 0 < m + n
more-taken m n h = omega (arith, h)

pub progress-on : (old mid : ServerChannel) (piece : List ℕ) (taken n : ℕ) (answer : Result ServerEvent ChannelFault) → Passed old mid piece taken
    → Progress (rest_of piece taken) n answer → Progress piece (taken + n) answer
progress-on old mid piece taken n (Ok e) p q = (within-piece piece taken n p.within q.0, λ h. more-taken taken n (p.some h))
progress-on old mid piece taken n (Err f) p q = within-piece piece taken n p.within q

pub next-passed : (old mid new : ServerChannel) (moment : DateTime) (piece : List ℕ) (taken n : ℕ) (answer : Result ServerEvent ChannelFault)
    → Passed old mid piece taken
    → ((octets : List ℕ) (told : List Told) → Goes mid octets told
    → AnswersAt (channel_of mid) (next_of mid) moment (rest_of piece taken) n answer new octets told)
    → Progress (rest_of piece taken) n answer → limits_of new ≡ limits_of mid → channel_of new ≡ channel_of mid → is_given_up answer ≡ true
    → Passed old new piece (taken + n)
next-passed old mid new moment piece taken n answer p answers progress limits channel e = record {
  within = within-piece piece taken n p.within (progress-within (rest_of piece taken) n answer progress);
  some = λ h. more-taken taken n (p.some h);
  limits = limits ∙ p.limits;
  channel = channel ∙ p.channel;
  alive = p.alive;
  passed = λ octets told h.
      let before = p.passed octets told h in
      let g = gone (channel_of mid) (next_of mid) moment (rest_of piece taken) n answer new (octets ++ take taken piece) (told ++ given_up before.0)
      (answers (octets ++ take taken piece) (told ++ given_up before.0) before.1) e in (
        before.0 ++ g.0 ∷ [],
        rw (← one-more told before.0 g.0, ← joined octets piece taken n) g.1,
        g.2 ∙ before.2,
      );
}

-- ---- what is answered at last

counts-on : (piece : List ℕ) (taken n : ℕ) (e : ServerEvent) → taken ≤ length piece → Counts (rest_of piece taken) n e → Counts piece (taken + n) e
counts-on piece taken n event.NeedMore h c = let l = rest-length piece taken in omega (arith, h, l, c)
counts-on piece taken n (event.Send sent) h c = let l = rest-length piece taken in let a = c.0 in let b = c.1 in (omega (arith, a), omega (arith, h, l, b))
counts-on piece taken n (event.Asked id message) h c = let l = rest-length piece taken in let a = c.0 in let b =
    c.1 in (omega (arith, a), omega (arith, h, l, b))
counts-on piece taken n (event.Aborted id) h c = let l = rest-length piece taken in let a = c.0 in let b = c.1 in (omega (arith, a), omega (arith, h, l, b))
counts-on piece taken n event.Closed h c = let l = rest-length piece taken in let a = c.0 in let b = c.1 in (omega (arith, a), omega (arith, h, l, b))

hands-moved : (channel number channel' number' : ℕ) (moment : DateTime) (e : ServerEvent) (new : ServerChannel) (octets octets' : List ℕ) (before : List Told)
    → channel' ≡ channel → number' ≡ number → octets' ≡ octets → EventHandedOut channel' number' moment e new octets' before
    → EventHandedOut channel number moment e new octets before
hands-moved channel number channel' number' moment e new octets octets' before c k o a =
    rw (← o, ← k, ← c) a

answers-moved : (channel number channel' number' : ℕ) (moment : DateTime) (piece : List ℕ) (taken n : ℕ) (answer : Result ServerEvent ChannelFault)
    (new : ServerChannel) (octets : List ℕ) (before : List Told)
    → taken ≤ length piece → channel' ≡ channel → number' ≡ number
    → AnswersAt channel' number' moment (rest_of piece taken) n answer new (octets ++ take taken piece) before
    → AnswersAt channel number moment piece (taken + n) answer new octets before
answers-moved channel number channel' number' moment piece taken n (Ok e) new octets before h c k a = (
  counts-on piece taken n e h a.0,
  hands-moved channel number channel' number' moment e new (octets ++ take (taken + n) piece)
      ((octets ++ take taken piece) ++ take n (rest_of piece taken)) before c k (joined octets piece taken n) a.1,
)
answers-moved channel number channel' number' moment piece taken n (Err (fault.Refused code err)) new octets before h c k a =
    (within-piece piece taken n h a.0, rw (← joined octets piece taken n) a.1, a.2)
answers-moved channel number channel' number' moment piece taken n (Err fault.OutOfMemory) new octets before h c k a =
    (within-piece piece taken n h a.0, rw (← joined octets piece taken n) a.1)
answers-moved channel number channel' number' moment piece taken n (Err fault.Closed) new octets before h c k a = a

pub at-last : (old mid new : ServerChannel) (moment : DateTime) (piece : List ℕ) (taken n : ℕ) (answer : Result ServerEvent ChannelFault)
    → Passed old mid piece taken
    → ((octets : List ℕ) (told : List Told) → Goes mid octets told
    → AnswersAt (channel_of mid) (next_of mid) moment (rest_of piece taken) n answer new octets told)
    → limits_of new ≡ limits_of mid → channel_of new ≡ channel_of mid
    → (octets : List ℕ) (told : List Told) → Goes old octets told → AnswersBehind old moment piece (taken + n) answer new octets told
at-last old mid new moment piece taken n answer p answers limits channel octets told h =
    let before = p.passed octets told h in
    record {
      limits = limits ∙ p.limits;
      channel = channel ∙ p.channel;
      quiet = before.0;
      answers = answers-moved (channel_of old) (next_of old) (channel_of mid) (next_of mid) moment piece taken n answer new octets (told ++ given_up before.0)
          p.within p.channel before.2 (answers (octets ++ take taken piece) (told ++ given_up before.0) before.1);
    }

all-taken : (l m : ℕ) → m ≤ l → l ≤ m → m ≡ l
all-taken l m h k = omega (arith, h, k)

pub all-progress : (old new : ServerChannel) (piece : List ℕ) (taken : ℕ) → Passed old new piece taken
    → Progress {A = ServerEvent} {E = ChannelFault} piece taken (Ok event.NeedMore)
all-progress old new piece taken p = (p.within, p.some)

pub all-passed : (old new : ServerChannel) (moment : DateTime) (piece : List ℕ) (taken : ℕ) → Passed old new piece taken → length piece ≤ taken
    → (octets : List ℕ) (told : List Told) → Goes old octets told → AnswersBehind old moment piece taken (Ok event.NeedMore) new octets told
all-passed old new moment piece taken p all octets told h =
    let before = p.passed octets told h in
    record {
      limits = p.limits;
      channel = p.channel;
      quiet = before.0;
      answers = (all-taken (length piece) taken p.within all, (before.1, before.2));
    }
