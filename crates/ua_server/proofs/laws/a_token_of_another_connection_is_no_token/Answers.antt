use Rattle.std.proofs.Common.{refl}
use Rattle.ua_server.proofs.Tokens.{other_token}
use Rattle.ua_server.proofs.laws.a_token_of_another_connection_is_no_token.Goals as goal

pub returns-clause-refused : goal.returns-clause-refused
returns-clause-refused c = other_token

pub returns-clause-activate : goal.returns-clause-activate
returns-clause-activate c = λ m. refl

pub returns-clause-close : goal.returns-clause-close
returns-clause-close c = λ m. refl

pub returns-clause-read : goal.returns-clause-read
returns-clause-read c = λ m. refl

pub returns-clause-write : goal.returns-clause-write
returns-clause-write c = λ m. refl
