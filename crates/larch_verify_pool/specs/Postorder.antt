-- Terms, their arguments before them, and how they are read from such a list.
use Rattle.std.specs.Prelude.{◌-◌, List, [], ◌∷◌, ◌++◌, length, take, drop}
use Rattle.larch_term.specs.Tree.{Tree, Forest, var, app, none, more, forest_of, list_of}

abbrev mutual
  -- a term and all terms in it, from left to right and each behind its arguments
  pub postorder : Tree → List Tree
  postorder (var n s) = var n s ∷ []
  postorder (app f ts) = postorder_all ts ++ app f ts ∷ []

  pub postorder_all : Forest → List Tree
  postorder_all none = []
  postorder_all (more t ts) = postorder t ++ postorder_all ts

-- those of several terms
abbrev pub postorders : List Tree → List Tree
postorders [] = []
postorders (t ∷ ts) = postorder t ++ postorders ts

-- a term is put behind others: an application of the last ones, as many as it has arguments, takes their place
abbrev pub read_behind : List Tree → Tree → List Tree
read_behind us (var n s) = us ++ var n s ∷ []
read_behind us (app f ts) =
    take (length us - length (list_of ts)) us ++ app f (forest_of (drop (length us - length (list_of ts)) us)) ∷ []

-- likewise all terms of a list, one by one
abbrev pub read_all : List Tree → List Tree → List Tree
read_all us [] = us
read_all us (t ∷ ts) = read_all (read_behind us t) ts
