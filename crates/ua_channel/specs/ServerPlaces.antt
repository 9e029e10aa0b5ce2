-- What a server was told, as far as replies need it.
use Rattle.std.specs.Prelude.{List, [], ◌∷◌, Option}
use Rattle.std.specs.List.{flat_map}
use Rattle.ua_channel.specs.Agreement.{Agreement}
use Rattle.ua_channel.specs.Received.{latest}
use Rattle.ua_channel.specs.ServerTold.{Told}
use Rattle.ua_channel.specs.ServerTold.Told.{Agreed}

-- what was agreed to by this
abbrev pub agreements_in : Told → List Agreement
agreements_in (Agreed a) = a ∷ []
agreements_in other = []

-- what was agreed to by these, if anything was
abbrev pub agreed_by : List Told → Option Agreement
agreed_by told = latest (flat_map agreements_in told)
