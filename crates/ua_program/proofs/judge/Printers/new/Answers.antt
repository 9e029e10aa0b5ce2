use Rattle.ua_program.proofs.judge.Printers.new.Goals as goal

pub returns-clause-stand : goal.returns-clause-stand
returns-clause-stand c = λ up down. record { client = c.new.ensures.stands up; server = c.new-2.ensures.stands down }
