-- What is agreed to says how much may be held.
use Rattle.std.specs.Prelude.{◌≡◌, ℕ, ◌+◌, ◌*◌, List, [], ◌∷◌, ◌++◌, take, Option, Some, None, Result, Ok, Err}
use Rattle.std.specs.List.{concat, flat_map}
use Rattle.std.specs.Result.{IsErrOf}
use Rattle.std.proofs.Common.{option_map, refl, sym, ◌∙◌, ap, append-nil}
use Rattle.std.proofs.lemmas.Grind.{flat_map-append}
use Rattle.ua_builtin.specs.declared.date_time.DateTime.{DateTime}
use Rattle.ua_frame.specs.Run.{events}
use Rattle.ua_frame.specs.declared.frame.Frame.{Frame}
use Rattle.ua_frame.specs.declared.hello.Hello.{Hello}
use Rattle.ua_frame.specs.declared.limits.Limits.{Limits}
use Rattle.ua_channel_laws.proofs.Replies.{agreed_told}
use Rattle.ua_channel_laws.proofs.ServerReadsOnce.{goes_behind}
use Rattle.ua_channel.specs.Agreement.{Agreement, agreement_of}
use Rattle.ua_channel.specs.Received.{latest, received}
use Rattle.ua_channel.specs.ServerPlaces.{agreements_in, agreed_by}
use Rattle.ua_channel.specs.ServerStands.{limits_of, channel_of, bound_of, rules_of, bound_behind, bound_after, Goes}
use Rattle.ua_channel.specs.ServerTold.{Told, Asked}
use Rattle.ua_channel.specs.declared.server.ServerChannel.{ServerChannel}
use Rattle.ua_channel.specs.declared.server_event.ServerEvent.{ServerEvent}
use Rattle.ua_channel.specs.declared.server_event.ServerEvent.TheVariants as event
use Rattle.ua_channel.specs.declared.server_fault.ChannelFault.{ChannelFault}
use Rattle.ua_channel.specs.declared.server_fault.ChannelFault.TheVariants as fault
use Rattle.ua_server.specs.Stepping.{AnswersBehind, given_up}
use Rattle.ua_server.proofs.Passing.{Passed}

-- the same fault of another kind of result
pub same-fault : {A B E : Type 0} (x y : E) → IsErrOf {T = A} (Err x) y → IsErrOf {T = B} (Err x) y
same-fault x y e = cc

-- the most octets that are held of a client that this was agreed with, if anything was
abbrev bound_at : Limits → Option Agreement → ℕ
bound_at limits None = 8192
bound_at limits (Some a) = a.ack.receive_buffer_size + 4 * limits.max_message_size

by-hello : (limits : Limits) (hello : Option Hello) → bound_behind limits hello ≡ bound_at limits (option_map (agreement_of limits) hello)
by-hello limits None = refl
by-hello limits (Some h) = refl

by-frames : (x : ServerChannel) (frames : List Frame) (told : List Told) → bound_of x ≡ bound_after (limits_of x) (received frames)
    → events (rules_of x) frames ≡ told → bound_of x ≡ bound_at (limits_of x) (agreed_by told)
by-frames x frames told bound is =
    bound ∙ (by-hello (limits_of x) (received frames).hello
    ∙ ap (bound_at (limits_of x)) (sym (agreed_told (limits_of x) (channel_of x) frames) ∙ ap agreed_by is))

by-told : (x : ServerChannel) (octets : List ℕ) (told : List Told) → Goes x octets told → bound_of x ≡ bound_at (limits_of x) (agreed_by told)
by-told x octets told g = by-frames x g.frames told g.stands.bound_is g.told_is

-- ---- nothing more was agreed to

none-agreed : (ids : List ℕ) → flat_map agreements_in (given_up ids) ≡ []
none-agreed [] = refl
none-agreed (id ∷ ids) = none-agreed ids

agreed-still : (told more : List Told) → flat_map agreements_in more ≡ [] → agreed_by (told ++ more) ≡ agreed_by told
agreed-still told more none =
    ap latest (flat_map-append agreements_in told more
    ∙ (ap (λ (a : List Agreement). flat_map agreements_in told ++ a) none ∙ append-nil (flat_map agreements_in told)))

same-bound : (old mid : ServerChannel) (octets : List ℕ) (told more : List Told) → Goes old octets told → limits_of mid ≡ limits_of old
    → flat_map agreements_in more ≡ []
    → bound_of mid ≡ bound_at (limits_of mid) (agreed_by (told ++ more)) → bound_of mid ≡ bound_of old
same-bound old mid octets told more g limits none is =
    is ∙ (rw limits (ap (bound_at (limits_of old)) (agreed-still told more none) ∙ sym (by-told old octets told g)))

-- behind messages that were given up
pub passed-bound : (old mid : ServerChannel) (piece : List ℕ) (taken : ℕ) (octets : List ℕ) (told : List Told) → Passed old mid piece taken
    → Goes old octets told → bound_of mid ≡ bound_of old
passed-bound old mid piece taken octets told p g =
    let behind = p.passed octets told g in
    same-bound old mid octets told (given_up behind.0) g p.limits (none-agreed behind.0)
    (by-told mid (octets ++ take taken piece) (told ++ given_up behind.0) behind.1)

module _ (old mid : ServerChannel) (moment : DateTime) (piece : List ℕ) (n : ℕ) (octets : List ℕ) (told : List Told)
    (g : Goes old octets told) where
  -- behind a message
  pub asked-bound : (id : ℕ) (message : List (List ℕ)) → AnswersBehind old moment piece n (Ok (event.Asked id message)) mid octets
      told → bound_of mid ≡ bound_of old
  asked-bound id message b =
      let asks = b.answers.1.0 in
      let agreed : agreed_by ((told ++ given_up b.quiet) ++ Asked id asks.token (concat message) ∷ []) ≡ agreed_by told =
      agreed-still (told ++ given_up b.quiet) (Asked id asks.token (concat message) ∷ []) refl
      ∙ agreed-still told (given_up b.quiet) (none-agreed b.quiet) in
      by-told mid (octets ++ take n piece) ((told ++ given_up b.quiet) ++ Asked id asks.token (concat message) ∷ [])
      (goes_behind mid (octets ++ take n piece) (told ++ given_up b.quiet) (Asked id asks.token (concat message)) asks.goes)
      ∙ (ap (bound_at (limits_of mid)) agreed
      ∙ (rw b.limits (sym (by-told old octets told g))))

  -- at a fault
  pub fault-bound : (f : ChannelFault) (r : Result ServerEvent ChannelFault) → r ≡ Err f → (IsErrOf r fault.OutOfMemory → bound_of mid ≡ bound_of old)
      → AnswersBehind old moment piece n (Err f) mid octets told → bound_of mid ≡ bound_of old
  fault-bound (fault.Refused code frame) r is starved b =
      let refused = b.answers.1 in
      same-bound old mid octets told (given_up b.quiet) g b.limits (none-agreed b.quiet)
      (by-frames mid refused.frames (told ++ given_up b.quiet) refused.bound_is refused.told_is)
  fault-bound fault.OutOfMemory r is starved b = starved is
  fault-bound fault.Closed r is starved b = absurd b.answers
