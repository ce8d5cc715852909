-- Which clusters are a file's and live, and which are the host's (document 01, "Judging a sector").
use Rattle.std.specs.Prelude.{ℕ, Bool, true, false, not, ◌&&◌, List, get_or, Option, Some, None}
use Rattle.vdisk.specs.Ids.{freed}
use Rattle.vdisk.specs.Owner.{owner_of}
use Rattle.vdisk.specs.declared.owner.Own.{Own}
use Rattle.vdisk.specs.declared.owner.Own.TheVariants.{Reserved, Fixed, Dyn, Free}
use Rattle.state.specs.Pairs.{pair_idx}
use Rattle.state.specs.declared.w.Pair.{Pair}

unfoldable pub is_nothing : Option ℕ → Bool
is_nothing (Some i) = false
is_nothing None = true

-- A file's cluster is live when it isn't marked freed and has no pair.
unfoldable pub is_live : List ℕ → List Pair → ℕ → ℕ → Bool
is_live ids ps j c = not (freed (get_or ids j 0)) && is_nothing (pair_idx ps c)

-- A host cluster: Free, or in a file and not live
unfoldable pub host_own : List ℕ → List Pair → ℕ → Own → Bool
host_own ids ps c Reserved = false
host_own ids ps c Fixed = false
host_own ids ps c (Dyn j) = not (is_live ids ps j c)
host_own ids ps c Free = true

unfoldable pub host_cluster : List ℕ → List ℕ → List ℕ → ℕ → List Pair → ℕ → Bool
host_cluster ids starts sizes first ps c = host_own ids ps c (owner_of starts sizes first c)
