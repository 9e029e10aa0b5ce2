use Rattle.std.specs.Prelude.{None}
use Rattle.ua_server.proofs.Histories.{history-became, history-beside, same-left, same-said, stands-alone, step_over}
use Rattle.ua_server.proofs.laws.a_history_goes_on_by_changes_and_steps.Goals as goal

pub returns-clause-became : goal.returns-clause-became
returns-clause-became c = history-became

pub returns-clause-beside : goal.returns-clause-beside
returns-clause-beside c = history-beside

pub returns-clause-steps : goal.returns-clause-steps
returns-clause-steps c = step_over

pub returns-clause-unchanged : goal.returns-clause-unchanged
returns-clause-unchanged c = λ channel s hs u. same-said channel s 1 None hs u

pub returns-clause-left : goal.returns-clause-left
returns-clause-left c = λ channel s hs u. same-left channel s 1 None hs u

pub returns-clause-stands : goal.returns-clause-stands
returns-clause-stands c = stands-alone
