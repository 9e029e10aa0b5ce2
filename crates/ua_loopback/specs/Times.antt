-- The timestamps of a server's answers, by the number of the answer that carries one.
use Rattle.std.specs.Prelude.{ℕ, zero, suc, List, [], ◌∷◌, drop, nat_eq, if◌then◌else◌}
use Rattle.ua_builtin.specs.declared.date_time.DateTime.{DateTime}
use Rattle.ua_loopback.specs.declared.answer_clock.AnswerClock.{AnswerClock}

-- the timestamp with a number, where this one has the number 0 and these follow in order; the last
-- of all is that of each further number
abbrev pub time_at : DateTime → List DateTime → ℕ → DateTime
time_at time [] n = time
time_at time (next ∷ times) zero = time
time_at time (next ∷ times) (suc n) = time_at next times n

-- ---- inside

-- how many timestamps an answer carries: one, but none if it is an ACK, whose first byte is A (OPC
-- 10000-6, 7.1.2.2), or if it is empty
abbrev pub times_in : List ℕ → ℕ
times_in [] = 0
times_in (octet ∷ octets) = if nat_eq octet 65 then 0 else 1

-- the timestamps of the answers that are to come
abbrev pub times_of : AnswerClock → ℕ → DateTime
times_of c = time_at c.moment (drop c.place c.later.items)
