use Rattle.std.proofs.Common.{◌<◌, refl, arith, true≢false, map, length}
use Rattle.std.proofs.lemmas.Bool.{false≢true}
use Rattle.std.proofs.lemmas.List.{length-map}
use Rattle.file_table.specs.Files.{id_of}
use Rattle.sessions.specs.Sessions.{Finds}
use Rattle.sessions.specs.Calls.{FindsHanded}
use Rattle.vwrite_sessions.proofs.gone.vwrite_find_handed.Goals as goal

pub returns-then-files-gt-MAX_VF : goal.returns-then-files-gt-MAX_VF
unfolding FindsHanded
returns-then-files-gt-MAX_VF c = (λ l. rw c.number.ensures, λ l. absurd (omega arith), λ l. absurd (omega arith))

pub returns-in-Some : goal.returns-in-Some
unfolding FindsHanded Finds
returns-in-Some c =
    let q = rw c.in-Some.is at c.find_handed.ensures in
    let n = length-map c.args.files.now id_of in
    (λ l. absurd (omega arith), λ l e. (refl, omega (arith, q.0), q.1), λ l e. absurd (true≢false e))

pub returns-in_default : goal.returns-in_default
unfolding FindsHanded Finds
returns-in_default c =
    let q = rw c.in_default.is at c.find_handed.ensures in
    (λ l. absurd (omega arith), λ l e. absurd (false≢true e), λ l e. (refl, refl, λ j h. q j (rw (length-map c.args.files.now id_of) h)))
