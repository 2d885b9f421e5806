-- Taking a chain: the newcomer gets the first core, each task on the chain the next core, and the last one's task drops out.
use Rattle.std.specs.Prelude.{ℕ, ◌-◌, ◌≤◌, ◌<◌, ◌≡◌, List, [], ◌∷◌, ◌++◌, length, take, replicate, get_or, set, All}
use Rattle.masks.specs.Masks.{width}

-- the seats after x took the cores of a list
abbrev pub take_list : List ℕ → ℕ → List ℕ → List ℕ
take_list seats x [] = seats
take_list seats x (c ∷ p) = take_list (set seats c x) (get_or seats c 0) p

-- each of the cores is one that a set can name
abbrev pub Cores : List ℕ → Type 0
Cores cores = All (λ c. c < width) cores

-- a chain has at least one core
pub record ChainCores (cores : List ℕ) : Type 0 where
  pub some : 0 < length cores
  pub below : Cores cores

-- cores at the front of an array, and 0 after them
abbrev pub spelt : List ℕ → List ℕ
spelt cores = cores ++ replicate (width - length cores) 0

-- the first `len` places of an array are its cores, and the places after them are 0
pub record Spelled (cores : List ℕ) (len : ℕ) : Type 0 where
  pub fits : len ≤ width
  pub size : length (take len cores) ≡ len
  pub spare : cores ≡ spelt (take len cores)
