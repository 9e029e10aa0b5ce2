use Rattle.ua_frame.proofs.FirstWrongs.{first_of_stop, stop_of_first}
use Rattle.ua_frame.proofs.laws.stops_at_first_wrong.Goals as goal

pub returns : goal.returns
returns g c = λ rules octets frames rest code framed. (first_of_stop rules octets frames rest code framed, stop_of_first rules octets frames rest code framed)
