-- What an application does beside connections.
use Rattle.std.specs.Prelude.{◌≡◌, ℕ, not, List, ◌++◌, Option, None, Result, Ok, Err}
use Rattle.ua_builtin.specs.declared.date_time.DateTime.{DateTime}
use Rattle.ua_frame.specs.declared.limits.Limits.{Limits}
use Rattle.ua_channel.specs.declared.server.ServerChannel.{ServerChannel}
use Rattle.ua_nodes.specs.Set.{after_set}
use Rattle.ua_nodes.specs.declared.set.Reading.{Reading}
use Rattle.ua_nodes.specs.declared.fault.SetFault.{SetFault}
use Rattle.ua_variant.specs.declared.values.Scalar.TheVariants.{Boolean}
use Rattle.ua_variant.specs.declared.values.Variant.TheVariants.{One}
use Rattle.example_callers.specs.declared.application.Pulse.{Pulse}
use Rattle.example_callers.specs.declared.application.SensorFault.{SensorFault}
use Rattle.example_callers.specs.declared.application.SensorFault.TheVariants as sensor_fault
use Rattle.example_callers.specs.declared.application.SetpointFault.{SetpointFault}
use Rattle.example_callers.specs.declared.application.SetpointFault.TheVariants as setpoint
use Rattle.ua_server.specs.Sharing.{SharedEvent, StepAmong, at_moment}
use Rattle.ua_server.specs.State.{State, with_nodes}
use Rattle.ua_server.specs.declared.session.Session.{Session}
use Rattle.ua_server.specs.declared.step.Step.{Step}
use Rattle.ua_server.specs.declared.step.StepFault.{StepFault}

-- ---- a sensor

-- if a reading was rejected, this holds of the reason
abbrev pub IfSetFault : (SetFault → Type 0) → SensorFault → Type 0
IfSetFault P (sensor_fault.Set fault) = P fault
IfSetFault P (sensor_fault.Step fault) = Unit {0}

-- if the step after it failed, this holds of the fault
abbrev pub IfStepFault : (StepFault → Type 0) → SensorFault → Type 0
IfStepFault P (sensor_fault.Set fault) = Unit {0}
IfStepFault P (sensor_fault.Step fault) = P fault

-- ---- a gateway

-- the outcome of the step in what a gateway made of it
abbrev pub step_in : Result Step SetpointFault → Result Step StepFault
step_in (Ok step) = Ok step
step_in (Err (setpoint.Step fault)) = Err fault
step_in (Err (setpoint.NotHandedOn step)) = Ok step

-- ---- two connections

-- the first connection takes a step after these events, and the second one after these and what the
-- first one's frames told
pub record BothStep (channels : ℕ → ℕ) (limits other : Limits) (moment : DateTime) (piece rest : List ℕ) (one two : Result Step StepFault) (x : ServerChannel)
    (mine : Option Session) (y : ServerChannel) (theirs : Option Session) (octets others : List ℕ) (es : List SharedEvent)
    (begun before now : State) : Type 0 where
  pub between : State
  pub first : StepAmong limits channels 0 moment piece one x mine octets es begun before between
  pub second : StepAmong other channels 1 moment rest two y theirs others (es ++ at_moment 0 moment first.told) begun between now

-- ---- a switch

-- what a switch tells of itself
abbrev pub pulse_reading : Pulse → Reading
pulse_reading p = record { value = One (Boolean p.is_on); status = None; source_time = p.moment; source_picoseconds = None }

-- its node was set to what it was, and it is the other way then
abbrev pub pulses : Pulse → State → Pulse → State → Type 0
pulses before old after new = (new ≡ with_nodes old (after_set before.id (pulse_reading before) old.nodes))
    × (after ≡ record before { is_on = not before.is_on })
