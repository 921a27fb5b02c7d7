-- What the examples of answers are written with.
use Rattle.std.specs.Prelude.{ℕ, codes, List, [], ◌∷◌, ◌++◌}
use Rattle.larch_base.specs.declared.label.Label.{Label}
use Rattle.larch_certificate_text.specs.CertificateText.{read_certificate}
use Rattle.larch_certificate_text.specs.TermText.{run}
use Rattle.larch_complete_answer.specs.Examples.{telling}
use Rattle.larch_duties_meaning.specs.Examples.{computing}
use Rattle.larch_io.specs.Folder.{FileMap}
use Rattle.larch_lexer.specs.Lexing.{lexing_of}
use Rattle.larch_words.specs.declared.call.Question.{Question}
use Rattle.larch_models_meaning.specs.ModelText.{read_model}
use Rattle.larch_words.specs.declared.call.Question.TheVariants.{Model, Trim, Verify}

-- all words that an example unfolds
unfoldable pub answering : Unit {0}
unfolding computing lexing_of read_certificate read_model run telling
answering = tt

-- a trait of one constant c that implies c == c
abbrev pub one_text : List ℕ
one_text = codes "One: trait introduces c: -> S implies c == c"

-- the name of its file
abbrev pub one_file : List ℕ
one_file = codes "One.lsl"

-- a folder of that file
abbrev pub one_folder : FileMap
one_folder = (one_file, one_text) ∷ []

-- the question whether c.cert shows the duty of that trait with a label
abbrev pub asked_of_one : Label → Question
asked_of_one label = Verify (record { stem = codes "One"; label = label; certificate = codes "c.cert" })

-- the same question with the lines left out that aren't needed
abbrev pub trimmed_of_one : Label → Question
trimmed_of_one label = Trim (record { stem = codes "One"; label = label; certificate = codes "c.cert" })

-- a folder of a trait of two constants that implies that they are the same
abbrev pub differing : FileMap
differing = (codes "Wk.lsl", codes "Wk: trait introduces c, d: -> S implies c == d") ∷ []

-- a folder of a trait with a function that is another one when it is applied twice
abbrev pub twofold : FileMap
twofold = (codes "Cm.lsl", codes "Cm: trait introduces g, f: S -> S asserts \\forall x: S f(f(x)) == g(x)") ∷ []

-- a folder of a trait with sums that may be exchanged
abbrev pub exchanging : FileMap
exchanging =
    (codes "Com.lsl", codes "Com: trait introduces __ + __: N, N -> N asserts \\forall x, y: N x + y == y + x") ∷ []

-- the question whether m.mod is a model of a trait
abbrev pub model_of : List ℕ → Question
model_of stem = Model (record { stem = stem; model = codes "m.mod" })

-- a folder with a model more, with these lines
abbrev pub with_model : FileMap → List ℕ → FileMap
with_model folder lines = (codes "m.mod", codes "model\n" ++ lines) ∷ folder

-- a folder of that file and a certificate with these lines
abbrev pub with_certificate : List ℕ → FileMap
with_certificate lines = (codes "c.cert", codes "certificate 1\n" ++ lines) ∷ one_folder
