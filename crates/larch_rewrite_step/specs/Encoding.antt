-- How lines write shared terms.
use Rattle.std.specs.Prelude.{List, All}
use Rattle.larch_derive.specs.Builder.{IsCodeIn}
use Rattle.larch_derive.specs.declared.builder.Builder.{Builder}
use Rattle.larch_store.specs.Numbered.{Numbered, term_of}
use Rattle.larch_store.specs.Stored.{Belongs}
use Rattle.larch_rewrite_step.specs.declared.encoding.Encoding.{Encoding}

-- the terms belong to a store
abbrev pub AreOfStore : List Numbered → List Encoding → Type 0
AreOfStore store encodings = All (λ k. Belongs store k.term) encodings

-- a builder's next lines write each term so
abbrev pub AreEncodings : Builder → List Encoding → Type 0
AreEncodings b encodings = All (λ k. IsCodeIn b (term_of k.term) k.coded) encodings
