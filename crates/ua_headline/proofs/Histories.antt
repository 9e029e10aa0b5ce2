-- That what `ask` and `take` of a client's channel ensure makes a history of it.
use Rattle.std.proofs.Common.{◌≡◌, ◌⊎◌, inl, inr, ℕ, ◌<◌, List, [], ◌∷◌, ◌++◌, length, None, Ok, sym, subst, take, take_all, arith, ◌+◌, IsTrue}
use Rattle.std.specs.List.{concat}
use Rattle.ua_builtin.specs.DateTime.{date_time}
use Rattle.ua_builtin.specs.declared.date_time.DateTime.{DateTime}
use Rattle.ua_channel.specs.Asks.Asking.{Call, Renewal}
use Rattle.ua_channel.specs.Client.{ClientEnded, ClientGoes, ClientGoesTelling, ClientStands, SameClient, SendsCall}
use Rattle.ua_channel.specs.Client.{SendsRenewal, WhateverPassed, call_refused, client_next, renewal_refused}
use Rattle.ua_channel.specs.ClientAnswers.{ClientAnswers}
use Rattle.ua_channel.specs.ClientTold.{ClientTold, ClientTold as heard, Why}
use Rattle.ua_channel.specs.declared.client.channel.ClientChannel.{ClientChannel}
use Rattle.ua_channel.specs.declared.client.event.ClientEvent.{ClientEvent}
use Rattle.ua_channel.specs.declared.client.event.ClientEvent.TheVariants as event
use Rattle.ua_channel_laws.specs.Outgoing.Outgoing.{CallWith, RenewalAt}
use Rattle.ua_channel_laws.proofs.ClientReadsOnce.{goes_behind}
use Rattle.ua_headline.specs.Headline.{CameBack, Did, History, renewals_in, tokens_in, with_bytes, with_op}
use Rattle.ua_headline.specs.Headline.Did.{Opened, Took, Called, Renewed}
use Rattle.ua_headline.specs.Talk.{Ends}

-- where a client is behind its history
goes_so : (e : Ends) (y : ClientChannel) (h : History) → Did e y h → ClientGoes y h.asks h.got h.heard
goes_so e y h (Opened z got told own number goes back) = goes
goes_so e y h (Took z more told d own number goes back) = goes
goes_so e y h (Called z id body out d many own some refused sends goes) = goes
goes_so e y h (Renewed z id time out d many own dated refused sends goes) = goes

-- a call more
pub called_on : (e : Ends) (x y : ClientChannel) (h : History) (id : ℕ) (body out : List ℕ) → Did e x h
    → length (tokens_in h.heard) ≡ renewals_in h.ops + 1 → 0 < length body → call_refused x 0 body ≡ None
    → SendsCall x (client_next x) body id out (client_next y) → SameClient x y
    → WhateverPassed x (λ asks octets frames rest. ClientStands y (asks ++ (length octets, Call id) ∷ []) octets frames rest)
    → Did e y (with_op h id (CallWith body) out)
called_on e x y h id body out d many some refused sends same stands =
    let g = goes_so e x h d in
    Called y id body out d many (sym same.limits) some refused sends
    (record { frames = g.frames; rest = g.rest; stands = stands h.asks h.got g.frames g.rest g.stands; told_is = g.told_is })

-- a renewal more
pub renewed_on : (e : Ends) (x y : ClientChannel) (h : History) (id : ℕ) (time : DateTime) (out : List ℕ) → Did e x h
    → length h.heard ≡ length h.ops + 2 → IsTrue (date_time.encodable time) → renewal_refused x ≡ None
    → SendsRenewal x (client_next x) time id out (client_next y) → SameClient x y
    → WhateverPassed x (λ asks octets frames rest. ClientStands y (asks ++ (length octets, Renewal id) ∷ []) octets frames rest)
    → Did e y (with_op h id (RenewalAt time) out)
renewed_on e x y h id time out d many dated refused sends same stands =
    let g = goes_so e x h d in
    Renewed y id time out d many (sym same.limits) dated refused sends
    (record { frames = g.frames; rest = g.rest; stands = stands h.asks h.got g.frames g.rest g.stands; told_is = g.told_is })

-- more octets
module _ (e : Ends) (x y : ClientChannel) (h : History) (piece : List ℕ) (n : ℕ) (d : Did e x h) (back : CameBack e h.sent (h.got ++ take n piece))
    (number : client_next y ≡ client_next x) (same : SameClient x y) where
  abbrev GoesOn : Type 0
  GoesOn = ((told : List ClientTold) × Did e y (with_bytes h (take n piece) told))
      ⊎ ((why : Why) × ClientEnded y h.asks (h.got ++ take n piece) h.heard why)

  telling : (t : ClientTold) → ClientGoesTelling y h.asks (h.got ++ take n piece) h.heard t → GoesOn
  telling t g = inl (
    h.heard ++ t ∷ [],
    Took y (take n piece) (h.heard ++ t ∷ []) d (sym same.limits) number
        (goes_behind y h.asks (h.got ++ take n piece) h.heard t g) back,
  )

  pub took_on : (moment : DateTime) (t : ClientEvent) → ClientAnswers moment piece (Ok (n, t)) y h.asks h.got h.heard → GoesOn
  took_on moment event.NeedMore a = inl (
    h.heard,
    Took y (take n piece) h.heard d (sym same.limits) number
        (subst (λ (o : List ℕ). ClientGoes y h.asks (h.got ++ o) h.heard) (sym (take_all n piece (omega (arith, a.0)))) a.1) back,
  )
  took_on moment (event.Send sent) a = telling (heard.Agreed a.ack) a.goes
  took_on moment event.Open a = telling (heard.Opened a.channel a.token) a.goes
  took_on moment (event.Answered id message) a = telling (heard.Answered id (concat message)) a.0
  took_on moment (event.Aborted id code) a = telling (heard.GaveUp id code) a
  took_on moment (event.Failed code peer) a = inr (record { code = code.code; peer = peer }, a)
  took_on moment (event.Renewed token) a = telling (heard.Renewed token) a
