use Rattle.ua_poll.proofs.serving.Watched.open.Goals as goal

-- a socket that was just accepted tells no octets
pub returns-in_default-open-2 : goal.returns-in_default-open-2
returns-in_default-open-2 c = record { stand = λ es first now s. c.open.ensures.stand es first now (λ d e. cc) s }
