-- The response of a server to bytes, and the state of its services after them: functions of how it
-- began and of the bytes, whatever the fragments.
use Rattle.std.specs.Prelude.{ℕ, zero, suc, ◌+◌, List, [], ◌∷◌}
use Rattle.ua_builtin.specs.declared.date_time.DateTime.{DateTime}
use Rattle.ua_frame.specs.Laws.{Reading}
use Rattle.ua_frame.specs.Run.{End, events}
use Rattle.ua_frame.proofs.Readings.{reading}
use Rattle.ua_channel.specs.ServerRules.{server_rules}
use Rattle.ua_channel.specs.ServerTold.{Told}
use Rattle.ua_server.specs.Said.{state_after, output_of, used_in}
use Rattle.ua_server.specs.State.{State}
use Rattle.ua_loopback.specs.Beginning.{Beginning}

-- the one reading of bytes at that server: their good frames, and how what follows them ends
abbrev pub reading_at_server : (b : Beginning) (octets : List ℕ) → Reading (server_rules b.limits b.channel) octets
reading_at_server b octets = reading (server_rules b.limits b.channel) octets

-- what the frames of bytes tell it
abbrev pub events_at_server : Beginning → List ℕ → List Told
events_at_server b octets = events (server_rules b.limits b.channel) (reading_at_server b octets).frames

-- how they end
abbrev pub end_by : Beginning → List ℕ → End ℕ
end_by b octets = (reading_at_server b octets).end

-- of times that are numbered, this many from this number on
abbrev pub times_from : (ℕ → DateTime) → ℕ → ℕ → List DateTime
times_from moments n zero = []
times_from moments n (suc count) = moments n ∷ times_from moments (n + 1) count

-- the times of the answers to what is told, from the first: one for each that carries one
abbrev pub answer_times : List Told → (ℕ → DateTime) → List DateTime
answer_times told moments = times_from moments 0 (used_in told)

-- all that it sends for bytes
unfoldable pub server_output : Beginning → List ℕ → List ℕ
server_output b octets = output_of b.channel b.first (events_at_server b octets) (end_by b octets) (answer_times (events_at_server b octets) b.moments)

-- the state in which bytes leave its services
unfoldable pub services_after : Beginning → List ℕ → State
services_after b octets = (state_after b.channel b.first (events_at_server b octets) (answer_times (events_at_server b octets) b.moments)).state

-- the state in which what is told leaves its services
abbrev pub state_told : Beginning → List Told → State
state_told b told = (state_after b.channel b.first told (answer_times told b.moments)).state
