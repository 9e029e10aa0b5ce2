use Rattle.ua_headline.proofs.Histories.{called_on, renewed_on, took_on}
use Rattle.ua_headline.proofs.short_law.histories_go_on.Goals as goal

pub returns-clause-called : goal.returns-clause-called
returns-clause-called c = called_on

pub returns-clause-renewed : goal.returns-clause-renewed
returns-clause-renewed c = renewed_on

pub returns-clause-took : goal.returns-clause-took
returns-clause-took c = λ e x y h moment piece n event d back answers number same. took_on e x y h piece n d back number same moment event answers
