-- Why a call of a client over a transport to a server fails, and when it does not.
use Rattle.std.proofs.Common.{◌≡◌, ◌⊎◌, inl, inr, ℕ, List, Option, Some, None, refl, subst, arith}
use Rattle.std.specs.Prelude.{Result, Ok, Err, IfErr, IfOk, OnOk}
use Rattle.ua_channel.specs.Line.{Traffic}
use Rattle.ua_client.specs.declared.fault.ClientFault.{ClientFault}
use Rattle.ua_client.specs.declared.fault.ClientFault.TheVariants as fault
use Rattle.ua_loopback.specs.Accepted.{IsTurnFault}
use Rattle.ua_loopback.specs.Beginning.{Beginning}
use Rattle.ua_loopback.specs.Faults.{FailsBehind, IsOutside}
use Rattle.ua_loopback.specs.Talking.{StopsOver}
use Rattle.ua_headline.specs.Answering.{HasNoFailure, SendsFew}

-- a fault is the reason against the operation, or comes from outside
pub own_or_outside : (Misanswers : Type 0) (reason : Option ClientFault) (f : ClientFault) → FailsBehind Misanswers f → (IsTurnFault f → reason ≡ Some f)
    → (f ≡ fault.UnknownResponse → ⊥) → (reason ≡ Some f) ⊎ IsOutside f
own_or_outside M reason fault.UnknownResponse fails refused never = absurd (never refl)
own_or_outside M reason fault.NotWritable fails refused never = inl (refused tt)
own_or_outside M reason fault.Exhausted fails refused never = inl (refused tt)
own_or_outside M reason fault.TooLarge fails refused never = inl (refused tt)
own_or_outside M reason fault.TooManyTokens fails refused never = inl (refused tt)
own_or_outside M reason fault.Read fails refused never = inr tt
own_or_outside M reason fault.Write fails refused never = inr tt
own_or_outside M reason fault.OutOfMemory fails refused never = inr tt
own_or_outside M reason fault.TooLong fails refused never = inr tt
own_or_outside M reason f fails refused never = absurd fails

-- the same where there is no such answer
pub own_or_outside_ever : (reason : Option ClientFault) (f : ClientFault) → FailsBehind ⊥ f → (IsTurnFault f → reason ≡ Some f)
    → (reason ≡ Some f) ⊎ IsOutside f
own_or_outside_ever reason f fails refused = own_or_outside ⊥ reason f fails refused (λ e. subst (FailsBehind ⊥) e fails)

none_some : {P : Type 0} (reason : Option ClientFault) (f : ClientFault) → reason ≡ None → reason ≡ Some f → P
none_some reason f e d = cc

module _ (b : Beginning) (octets : List ℕ) (before after : Option Traffic) (few : SendsFew b octets before after) where
  -- nothing outside failed
  not_outside : (A : Type 0) (f : ClientFault) → IsOutside f → HasNoFailure {A = A} (Err f) → StopsOver f b octets before after → ⊥
  not_outside A fault.Read o had stops = had
  not_outside A fault.Write o had stops = had
  not_outside A fault.OutOfMemory o had stops = had
  not_outside A fault.TooLong o had stops =
      let most = stops.2.long refl in
      let less = few stops.0 stops.1 in
      omega (arith, most, less)
  not_outside A f o had stops = o

  pub found_by : {A : Type 0} (P : A → Type 0) (reason : Option ClientFault) (result : Result A ClientFault) → reason ≡ None → HasNoFailure result
      → IfOk result P
      → IfErr result (λ f. (reason ≡ Some f) ⊎ IsOutside f) → IfErr result (λ f. StopsOver f b octets before after)
      → (found : A) × (result ≡ Ok found) × P found
  found_by {A} P reason (Ok v) none had replied why stops = (v, refl, replied)
  found_by {A} P reason (Err f) none had replied (inl is) stops = none_some reason f none is
  found_by {A} P reason (Err f) none had replied (inr outside) stops = absurd (not_outside A f outside had stops)

-- ---- outcomes

pub err_by : {A : Type 0} (P Q : ClientFault → Type 0) (result : Result A ClientFault) → ((f : ClientFault) → P f → Q f) → IfErr result P → IfErr result Q
err_by P Q (Ok v) by p = tt
err_by P Q (Err f) by p = by f p

pub err_by_both : {A : Type 0} (P Q R : ClientFault → Type 0) (result : Result A ClientFault) → ((f : ClientFault) → P f → Q f → R f) → IfErr result P
    → IfErr result Q → IfErr result R
err_by_both P Q R (Ok v) by p q = tt
err_by_both P Q R (Err f) by p q = by f p q

pub err_by_all : {A : Type 0} (P Q R S : ClientFault → Type 0) (result : Result A ClientFault) → ((f : ClientFault) → P f → Q f → R f → S f) → IfErr result P
    → IfErr result Q → IfErr result R → IfErr result S
err_by_all P Q R S (Ok v) by p q r = tt
err_by_all P Q R S (Err f) by p q r = by f p q r

pub ok_by : {A : Type 0} (P : Type 0) (result : Result A ClientFault) → OnOk result P → IfOk result (λ v. P)
ok_by P (Ok v) p = p
ok_by P (Err f) p = tt

pub unit_found : (P : Type 0) (result : Result (Unit {0}) ClientFault) → (found : Unit {0}) × (result ≡ Ok found) × P → (result ≡ Ok tt) × P
unit_found P result (tt, e, p) = (e, p)
