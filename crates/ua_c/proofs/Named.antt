-- The NodeIds that the lines of a text name, one line at a time.
use Rattle.std.proofs.Common.{Global, Vec, arith, le_of_lt, length-take-le, refl, ◌≡◌, ℕ, ◌+◌, ◌<◌, List, []}
use Rattle.std.proofs.Common.{◌∷◌, ◌++◌, length, get_or, take, Result, Ok, Err, IfErr, inl, inr, sym, subst}
use Rattle.std.proofs.Math.Seq.{take-length}
use Rattle.std.proofs.lemmas.List.{take_more}
use Rattle.std.proofs.lemmas.Slice.Zip.{AllZip-long, all_zipped_more}
use Rattle.std.specs.List.{AllZip}
use Rattle.ua_builtin.specs.declared.node_id.NodeId.{NodeId}
use Rattle.ua_c.specs.Requests.{LinesNameNodes, AreNoNodes, AreUnnamed, IsNoNode, IsUnnamed, IsUnnamedAt, Names, NamesNone, lines}
use Rattle.ua_c.specs.Status.{text_node}
use Rattle.ua_c.specs.declared.bad_text.BadText.{BadText}

-- octets of a text that names none
pub none_in_octets : (r : Result NodeId ℕ) (text octets : List ℕ) → text ≡ octets → IfErr r (λ status. IsUnnamed text status)
    → IfErr r (λ status. IsNoNode octets status)
none_in_octets (Ok node) text octets e h = tt
none_in_octets (Err status) text octets e (inl starved) = inl starved
none_in_octets (Err status) text octets e (inr bad) = inr (bad.0, inr (subst (λ (t : List ℕ). NamesNone t) e bad.1))

-- the NodeIds that the first lines name
abbrev pub NamedUpTo : List ℕ → ℕ → List NodeId → Type 0
NamedUpTo text n nodes = AllZip Names (take n (lines text)) nodes

-- the line at a place
abbrev pub IsLine : List ℕ → ℕ → List ℕ → Type 0
IsLine text n line = (n < length (lines text)) × (line ≡ get_or (lines text) n line)

-- one line more
pub named_more : (text : List ℕ) (n m : ℕ) (line : List ℕ) (nodes : List NodeId) (node : NodeId) → m ≡ n + 1 → IsLine text n line → NamedUpTo text n nodes
    → Names line node → NamedUpTo text m (nodes ++ node ∷ [])
named_more text n m line nodes node e here all names =
    subst (λ (k : ℕ). NamedUpTo text k (nodes ++ node ∷ [])) (sym e)
    (subst (λ (t : List (List ℕ)). AllZip Names t (nodes ++ node ∷ [])) (sym (take_more (lines text) n line here.0))
    (all_zipped_more Names (take n (lines text)) nodes (get_or (lines text) n line) node all (subst (λ (x : List ℕ). Names x node) here.1 names)))

-- a line that names none, behind lines that do
named_none : (text : List ℕ) (n : ℕ) (line : List ℕ) (status : ℕ) (nodes : List NodeId) → IsLine text n line → NamedUpTo text n nodes → IsUnnamed line status
    → IsUnnamedAt text n status
named_none text n line status nodes here all (inl starved) = inl starved
named_none text n line status nodes here all (inr bad) =
    inr (bad.0, record { before = nodes; are = all; line = line; here = here.0; is = sym here.1; none = bad.1 })

-- its place is how many nodes stand before it
pub none_told : (text : List ℕ) (n size : ℕ) (line : List ℕ) (status : ℕ) (nodes : List NodeId) (bad : BadText)
    → bad ≡ record { status = status; text = text_node; index = size } → size ≡ length nodes
    → IsLine text n line → NamedUpTo text n nodes → IsUnnamed line status → AreUnnamed text bad
none_told text n size line status nodes bad e counted here all none =
    let taken = length-take-le n (lines text) (le_of_lt here.0) in
    let long = AllZip-long Names (take n (lines text)) nodes all in
    let same : n ≡ size = omega (arith, taken, long, counted) in
    subst (λ (b : BadText). AreUnnamed text b) (sym e)
    (inr (refl, subst (λ (k : ℕ). IsUnnamedAt text k status) same (named_none text n line status nodes here all none)))

-- octets that are such a text
pub none_of_lines : (r : Result (Vec NodeId Global) BadText) (text octets : List ℕ) → text ≡ octets → IfErr r (λ bad. AreUnnamed text bad)
    → IfErr r (λ bad. AreNoNodes octets bad)
none_of_lines (Ok nodes) text octets e h = tt
none_of_lines (Err bad) text octets e (inl starved) = inl (starved.0, starved.1, inl starved.2)
none_of_lines (Err bad) text octets e (inr at) = inr (at.0, subst (λ (t : List ℕ). IsUnnamedAt t bad.index bad.status) e at.1)

-- all lines
pub named_all : (text : List ℕ) (n : ℕ) (nodes : List NodeId) → n ≡ length (lines text) → NamedUpTo text n nodes → LinesNameNodes text nodes
named_all text n nodes e all = subst (λ (t : List (List ℕ)). AllZip Names t nodes) (take-length (lines text)) (subst (λ (k : ℕ). NamedUpTo text k nodes) e all)
