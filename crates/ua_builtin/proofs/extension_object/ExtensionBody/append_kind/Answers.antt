use Rattle.std.proofs.Common.{[], ap, sym, refl, lit<, append-nil}
use Rattle.ua_builtin.specs.ExtensionObject.{body_octets}
use Rattle.ua_builtin.proofs.ExtensionObjectLawful.{written_kind}
use Rattle.ua_builtin.proofs.extension_object.ExtensionBody.append_kind.Goals as goal

pub returns-in-Absent-clause-ok : goal.returns-in-Absent-clause-ok
returns-in-Absent-clause-ok c =
    written_kind c.append.result c.args.self.now 0 [] _ c.args.out.now.items c.append.new.out.items (lit< tt) (ap body_octets c.in-Absent.is)
    (sym (append-nil _)) c.append.ensures.ok

pub returns-in-ByteString-clause-ok : goal.returns-in-ByteString-clause-ok
returns-in-ByteString-clause-ok c =
    written_kind c.append_two.result c.args.self.now 1 _ _ c.args.out.now.items c.append_two.new.out.items (lit< tt) (ap body_octets c.in-ByteString.is) refl
    c.append_two.ensures.ok

pub returns-in-Xml-clause-ok : goal.returns-in-Xml-clause-ok
returns-in-Xml-clause-ok c =
    written_kind c.append_two-in-Xml.result c.args.self.now 2 _ _ c.args.out.now.items c.append_two-in-Xml.new.out.items (lit< tt) (ap body_octets c.in-Xml.is)
    refl c.append_two-in-Xml.ensures.ok
