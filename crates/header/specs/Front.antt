-- What stands at the front of a line: its name's end, and where a parent's line may come, an identifier.
use Rattle.std.specs.Prelude.{Bool, false, ◌&&◌, ◌||◌, List, ℕ, eqb, take, drop}
use Rattle.rules.specs.Bytes.{bytes, LF, space}
use Rattle.rules.specs.Lists.{first, starts}
use Rattle.commit.specs.Reader.{identifier}
use Rattle.commit.specs.declared.Phase.{Phase}

-- a space or LF ends a name
abbrev pub ends_name : ℕ → Bool
ends_name c = eqb c LF || eqb c space

-- an identifier of a size stands at the front, and an LF after it
abbrev pub id_front : ℕ → List ℕ → Bool
id_front size s = identifier size (take size s) && first (λ c. eqb c LF) (drop size s)

-- a parent's line stands at the front: "name, space, content, LF", its content an identifier of a size
abbrev pub parent_front : ℕ → List ℕ → Bool
parent_front size s = starts (bytes "parent ") s && id_front size (drop 7 s)

-- so where one may come: no other phase has a parent's line
abbrev pub parent_comes : Phase → List ℕ → Bool
parent_comes (Phase.Parents size) s = parent_front size s
parent_comes Phase.Tree s = false
parent_comes Phase.Committer s = false
parent_comes Phase.Others s = false
parent_comes Phase.Under s = false
