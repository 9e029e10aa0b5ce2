-- What a server's channel makes of a call of its reader, and of a fragment.
use Rattle.std.specs.Prelude.{◌≡◌, ℕ, List, [], ◌∷◌, ◌++◌, Result, Ok, Err}
use Rattle.ua_builtin.specs.declared.date_time.DateTime.{DateTime}
use Rattle.ua_channel.specs.declared.server.ServerChannel.{ServerChannel}
use Rattle.ua_channel.specs.declared.server_event.Event.{Event}
use Rattle.ua_channel.specs.declared.server_event.ServerEvent.{ServerEvent}
use Rattle.ua_channel.specs.declared.server_event.ServerEvent.TheVariants.{NeedMore, Send, Asked, Aborted}
use Rattle.ua_channel.specs.declared.server_fault.ChannelFault.{ChannelFault}
use Rattle.ua_channel.specs.declared.server_fault.ChannelFault.TheVariants.{Refused, Closed, OutOfMemory}
use Rattle.ua_channel.specs.inside.Ends.{ComesBy}
use Rattle.ua_channel.specs.ServerEvents.{is_closed}
use Rattle.ua_channel.specs.ServerStands.{server_side, next_of, IsDone, GoesTelling, ClosedAt}
use Rattle.ua_channel.specs.ServerTold.{Told, Told as told}
use Rattle.ua_channel.specs.ServerAnswers.{SendsOctets, Asks}
use Rattle.ua_channel.specs.declared.server_event.ServerEvent.TheVariants as event

-- the state of the channel with an event of a frame
abbrev pub StandsWith : Event → ServerChannel → List ℕ → List Told → Type 0
StandsWith e new octets before = ComesBy server_side (is_closed e) new.end tt octets before e

-- the outcome for an event of the last frame
abbrev pub AnswersTo : ℕ → ℕ → DateTime → Result ServerEvent ChannelFault → ServerChannel → List ℕ → List Told → Type 0
AnswersTo channel number moment (Ok NeedMore) new octets before = ⊥
AnswersTo channel number moment (Ok (Send sent)) new octets before = SendsOctets channel number moment sent.items new octets before
AnswersTo channel number moment (Ok (Asked id message)) new octets before = Asks id message new octets before × (next_of new ≡ number)
AnswersTo channel number moment (Ok (Aborted id)) new octets before = GoesTelling new octets before (told.GaveUp id) × (next_of new ≡ number)
AnswersTo channel number moment (Ok event.Closed) new octets before = ClosedAt new octets (before ++ told.Closed ∷ [])
AnswersTo channel number moment (Err OutOfMemory) new octets before = IsDone new
AnswersTo channel number moment (Err (Refused code err)) new octets before = ⊥
AnswersTo channel number moment (Err Closed) new octets before = ⊥
