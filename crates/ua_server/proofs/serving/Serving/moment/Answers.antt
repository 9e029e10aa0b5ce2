use Rattle.std.proofs.Common.{arith, ◌≡◌, ◌++◌, ◌∷◌, [], ℤ, Option, refl, ◌∙◌, ap, w64, to_z, of_z}
use Rattle.std.proofs.lemmas.Int.{to_z-of_z}
use Rattle.ua_builtin.specs.declared.date_time.DateTime.{DateTime}
use Rattle.ua_channel.specs.Received.{listed}
use Rattle.ua_server.specs.Serving.{moment_of}
use Rattle.ua_server.proofs.serving.Serving.moment.Goals as goal

pub returns-in-Some-clause-asked : goal.returns-in-Some-clause-asked
returns-in-Some-clause-asked g c = record { ticks = []; given = refl; holds = rw c.in-Some.is }

pub returns-in-Some-clause-kept : goal.returns-in-Some-clause-kept
returns-in-Some-clause-kept g c = rw c.in-Some.is

pub returns-in-None-clause-asked : goal.returns-in-None-clause-asked
returns-in-None-clause-asked g c =
    let same : c.next.result ≡ to_z w64 (of_z w64 c.next.result) = grind (arith, to_z-of_z) in
    record {
      ticks = c.next.result ∷ [];
      given = (c.next.new.self, c.next.ensures, refl);
      holds = ap (λ (o : Option DateTime). listed o ++ moment_of c.next.result ∷ []) c.in-None.is ∙ ap (λ (t : ℤ). moment_of t ∷ []) same;
    }

pub returns-in-None-clause-kept : goal.returns-in-None-clause-kept
returns-in-None-clause-kept g c = refl
