-- What is known of a status code in a fault, and of a server that refuses.
use Rattle.std.specs.Prelude.{◌≡◌, ℕ, nat_eq, cond, List, [], ◌++◌, Option, None, Some, string_bytes, codes}
use Rattle.std.specs.Fmt.{decimal}
use Rattle.ua_builtin.specs.declared.status_code.StatusCode.{StatusCode}
use Rattle.ua_client.specs.declared.fault.ClientFault.TheVariants as client
use Rattle.ua_frame.specs.Messages.{error}
use Rattle.ua_frame.specs.Whole.{whole_of}
use Rattle.ua_frame.specs.declared.error.ErrorFrame.{ErrorFrame}
use Rattle.ua_frame.specs.declared.frame.Frame.{Frame}
use Rattle.ua_frame.specs.declared.kind.Kind.TheVariants as kind
use Rattle.ua_session.specs.declared.fault.QuestionFault.TheVariants as ask
use Rattle.ua_report.specs.declared.loop_fault.LoopFault.TheVariants as loop
use Rattle.ua_texts.specs.Names.{name_of_code}
use Rattle.ua_texts.specs.Shown.{escaped}
use Rattle.ua_report.specs.declared.fault.Fault.{Fault}
use Rattle.ua_report.specs.declared.fault.Fault.TheVariants.{Asking, Looping}
use Rattle.ua_report.specs.declared.reason.Reason.{Reason}
use Rattle.ua_report.specs.declared.reason.Reason.TheVariants.{HalfPair, NoDigit, System, Text}

-- the status code in a fault: that of a service, or by which one end refused the other
abbrev pub code_in_fault : Fault → Option StatusCode
code_in_fault (Asking (ask.Service code)) = Some code
code_in_fault (Asking (ask.Connection (client.Peer code))) = Some code
code_in_fault (Asking (ask.Connection (client.Refused code))) = Some code
code_in_fault (Looping (loop.Service code)) = Some code
code_in_fault other = None

-- a name, or that there is none
abbrev pub named_or_not : Option (List ℕ) → List ℕ
named_or_not None = codes "a code without a standard name"
named_or_not (Some name) = name

-- what helps against a code, by a word that the program has: BadTooManyOperations,
-- BadIdentityTokenInvalid, BadIdentityTokenRejected and BadTcpEndpointUrlInvalid (OPC 10000-6, A.2)
abbrev pub hint_of : ℕ → List ℕ
hint_of code =
    cond (nat_eq code 0x8010_0000) (codes " (try fewer nodes)") (
    cond (nat_eq code 0x8020_0000) (codes " (try --policy auto)") (
    cond (nat_eq code 0x8021_0000) (codes " (try --policy auto)") (
    cond (nat_eq code 0x8083_0000) (codes " (try --path /P or --url URL)") [])))

-- what a server says, after a comma
abbrev pub said_part : Option (List ℕ) → List ℕ
said_part None = []
said_part (Some text) = codes ", " ++ escaped text

-- the line of a code: its name in the standard, what the server says besides, and what helps
abbrev pub known_line : ℕ → Option (List ℕ) → List ℕ
known_line code said = codes "  because " ++ named_or_not (name_of_code code) ++ said_part said ++ hint_of code ++ codes "\n"

-- the line of a text that is blamed
abbrev pub word_line : List ℕ → List ℕ
word_line text = codes "  because " ++ escaped text ++ codes "\n"

-- the line of a reason; an error of the system has the system's own text
abbrev pub reason_line : Reason → Option (List ℕ)
reason_line (System told) = None
reason_line (Text text) = Some (word_line (string_bytes text))
reason_line (NoDigit place) = Some (codes "  because no digit at index " ++ decimal place ++ codes "\n")
reason_line HalfPair = Some (codes "  because an odd number of digits\n")

-- what is told besides a fault: of the code in it, if it has one, with a text that the server says;
-- else of its reason
abbrev pub known_text : Option StatusCode → Option Reason → Option (List ℕ)
known_text (Some code) (Some (Text said)) = Some (known_line code.code (Some (string_bytes said)))
known_text (Some code) other = Some (known_line code.code None)
known_text None (Some reason) = reason_line reason
known_text None None = Some []

-- a frame is an ERR frame, and reads as this Error (OPC 10000-6, 7.1.2.5)
abbrev pub IsErrorFrame : Frame → ErrorFrame → Type 0
IsErrorFrame frame e = (frame.kind ≡ kind.Err) × (whole_of error frame.body ≡ Some e)
