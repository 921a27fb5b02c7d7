-- What contracts see of a term of a certificate.
use Rattle.larch_certificate.specs.Coded.{CodedTree, coded_var, coded_app, coded_forest_of}
use Rattle.larch_certificate.specs.declared.coded.CodedNode.{CodedNode}
use Rattle.larch_certificate.specs.declared.coded.CodedNode.TheVariants.{Var, App}

-- a variable or an application
abbrev pub view_coded : CodedNode → CodedTree
view_coded (Var n s) = coded_var n s
view_coded (App f ts) = coded_app f (coded_forest_of ts)
