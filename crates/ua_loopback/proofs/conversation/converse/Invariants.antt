use Rattle.ua_loopback.specs.Beginning.{beginning_of}
use Rattle.ua_loopback.proofs.conversation.converse.Given as goal

-- the server begins as the caller says
abbrev pub ghosts-converse_with : goal.ghosts-converse_with
ghosts-converse_with g a = record { beginning = beginning_of a.server }
