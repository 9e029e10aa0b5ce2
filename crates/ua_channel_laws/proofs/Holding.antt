-- The largest frame that a server takes.
use Rattle.std.proofs.Common.{◌≡◌, ℕ, Bool, true, false, Option, Some, None, refl}
use Rattle.std.specs.Prelude.{if◌then◌else◌, ◌==◌}
use Rattle.ua_frame.specs.declared.hello.Hello.{Hello}
use Rattle.ua_frame.specs.declared.limits.Limits.{Limits}
use Rattle.ua_channel.specs.ServerRules.{receive_size, opening_gate, running_gate, server_gate_behind}

largest_by : (b : Bool) (size : ℕ) → (if b then opening_gate size else running_gate size).largest ≡ size
largest_by true size = refl
largest_by false size = refl

pub largest_behind : (limits : Limits) (hello : Option Hello) (count : ℕ) → (server_gate_behind limits hello count).largest ≡ receive_size limits hello
largest_behind limits None count = refl
largest_behind limits (Some h) count = largest_by (count == 0) (receive_size limits (Some h))
