-- The state with one field set. One setter for each field that a call stores.
use Rattle.std.specs.Prelude.{ℕ, Bool, List}
use Rattle.records.specs.declared.Rec.{Rec}
use Rattle.state.specs.declared.w.Pair.{Pair}
use Rattle.state.specs.declared.w.St.{St}
use Rattle.state.specs.declared.w.Done.{Done}
use Rattle.state.specs.declared.w.Stats.{Stats}
use Rattle.state.specs.declared.w.W.{W}

unfoldable pub with_rw : W → Bool → W
with_rw w x =
    record { rw = x; want_rw = w.want_rw; boot = w.boot; fat1 = w.fat1; rec = w.rec; pair = w.pair; st = w.st; session = w.session; locks = w.locks; last = w.last; now_ms = w.now_ms; staging = w.staging; stage_t = w.stage_t; hint = w.hint; err = w.err; fw = w.fw; done = w.done; ver = w.ver; end_at = w.end_at; parks = w.parks; purged = w.purged; purge = w.purge; n = w.n; first = w.first }

unfoldable pub with_want_rw : W → Bool → W
with_want_rw w x =
    record { rw = w.rw; want_rw = x; boot = w.boot; fat1 = w.fat1; rec = w.rec; pair = w.pair; st = w.st; session = w.session; locks = w.locks; last = w.last; now_ms = w.now_ms; staging = w.staging; stage_t = w.stage_t; hint = w.hint; err = w.err; fw = w.fw; done = w.done; ver = w.ver; end_at = w.end_at; parks = w.parks; purged = w.purged; purge = w.purge; n = w.n; first = w.first }

unfoldable pub with_boot : W → ℕ → W
with_boot w x =
    record { rw = w.rw; want_rw = w.want_rw; boot = x; fat1 = w.fat1; rec = w.rec; pair = w.pair; st = w.st; session = w.session; locks = w.locks; last = w.last; now_ms = w.now_ms; staging = w.staging; stage_t = w.stage_t; hint = w.hint; err = w.err; fw = w.fw; done = w.done; ver = w.ver; end_at = w.end_at; parks = w.parks; purged = w.purged; purge = w.purge; n = w.n; first = w.first }

unfoldable pub with_fat1 : W → ℕ → W
with_fat1 w x =
    record { rw = w.rw; want_rw = w.want_rw; boot = w.boot; fat1 = x; rec = w.rec; pair = w.pair; st = w.st; session = w.session; locks = w.locks; last = w.last; now_ms = w.now_ms; staging = w.staging; stage_t = w.stage_t; hint = w.hint; err = w.err; fw = w.fw; done = w.done; ver = w.ver; end_at = w.end_at; parks = w.parks; purged = w.purged; purge = w.purge; n = w.n; first = w.first }

unfoldable pub with_rec : W → List Rec → W
with_rec w x =
    record { rw = w.rw; want_rw = w.want_rw; boot = w.boot; fat1 = w.fat1; rec = x; pair = w.pair; st = w.st; session = w.session; locks = w.locks; last = w.last; now_ms = w.now_ms; staging = w.staging; stage_t = w.stage_t; hint = w.hint; err = w.err; fw = w.fw; done = w.done; ver = w.ver; end_at = w.end_at; parks = w.parks; purged = w.purged; purge = w.purge; n = w.n; first = w.first }

unfoldable pub with_pair : W → List Pair → W
with_pair w x =
    record { rw = w.rw; want_rw = w.want_rw; boot = w.boot; fat1 = w.fat1; rec = w.rec; pair = x; st = w.st; session = w.session; locks = w.locks; last = w.last; now_ms = w.now_ms; staging = w.staging; stage_t = w.stage_t; hint = w.hint; err = w.err; fw = w.fw; done = w.done; ver = w.ver; end_at = w.end_at; parks = w.parks; purged = w.purged; purge = w.purge; n = w.n; first = w.first }

unfoldable pub with_st : W → List St → W
with_st w x =
    record { rw = w.rw; want_rw = w.want_rw; boot = w.boot; fat1 = w.fat1; rec = w.rec; pair = w.pair; st = x; session = w.session; locks = w.locks; last = w.last; now_ms = w.now_ms; staging = w.staging; stage_t = w.stage_t; hint = w.hint; err = w.err; fw = w.fw; done = w.done; ver = w.ver; end_at = w.end_at; parks = w.parks; purged = w.purged; purge = w.purge; n = w.n; first = w.first }

unfoldable pub with_session : W → Bool → W
with_session w x =
    record { rw = w.rw; want_rw = w.want_rw; boot = w.boot; fat1 = w.fat1; rec = w.rec; pair = w.pair; st = w.st; session = x; locks = w.locks; last = w.last; now_ms = w.now_ms; staging = w.staging; stage_t = w.stage_t; hint = w.hint; err = w.err; fw = w.fw; done = w.done; ver = w.ver; end_at = w.end_at; parks = w.parks; purged = w.purged; purge = w.purge; n = w.n; first = w.first }

unfoldable pub with_locks : W → Bool → W
with_locks w x =
    record { rw = w.rw; want_rw = w.want_rw; boot = w.boot; fat1 = w.fat1; rec = w.rec; pair = w.pair; st = w.st; session = w.session; locks = x; last = w.last; now_ms = w.now_ms; staging = w.staging; stage_t = w.stage_t; hint = w.hint; err = w.err; fw = w.fw; done = w.done; ver = w.ver; end_at = w.end_at; parks = w.parks; purged = w.purged; purge = w.purge; n = w.n; first = w.first }

unfoldable pub with_last : W → ℕ → W
with_last w x =
    record { rw = w.rw; want_rw = w.want_rw; boot = w.boot; fat1 = w.fat1; rec = w.rec; pair = w.pair; st = w.st; session = w.session; locks = w.locks; last = x; now_ms = w.now_ms; staging = w.staging; stage_t = w.stage_t; hint = w.hint; err = w.err; fw = w.fw; done = w.done; ver = w.ver; end_at = w.end_at; parks = w.parks; purged = w.purged; purge = w.purge; n = w.n; first = w.first }

unfoldable pub with_now_ms : W → ℕ → W
with_now_ms w x =
    record { rw = w.rw; want_rw = w.want_rw; boot = w.boot; fat1 = w.fat1; rec = w.rec; pair = w.pair; st = w.st; session = w.session; locks = w.locks; last = w.last; now_ms = x; staging = w.staging; stage_t = w.stage_t; hint = w.hint; err = w.err; fw = w.fw; done = w.done; ver = w.ver; end_at = w.end_at; parks = w.parks; purged = w.purged; purge = w.purge; n = w.n; first = w.first }

unfoldable pub with_staging : W → Bool → W
with_staging w x =
    record { rw = w.rw; want_rw = w.want_rw; boot = w.boot; fat1 = w.fat1; rec = w.rec; pair = w.pair; st = w.st; session = w.session; locks = w.locks; last = w.last; now_ms = w.now_ms; staging = x; stage_t = w.stage_t; hint = w.hint; err = w.err; fw = w.fw; done = w.done; ver = w.ver; end_at = w.end_at; parks = w.parks; purged = w.purged; purge = w.purge; n = w.n; first = w.first }

unfoldable pub with_stage_t : W → ℕ → W
with_stage_t w x =
    record { rw = w.rw; want_rw = w.want_rw; boot = w.boot; fat1 = w.fat1; rec = w.rec; pair = w.pair; st = w.st; session = w.session; locks = w.locks; last = w.last; now_ms = w.now_ms; staging = w.staging; stage_t = x; hint = w.hint; err = w.err; fw = w.fw; done = w.done; ver = w.ver; end_at = w.end_at; parks = w.parks; purged = w.purged; purge = w.purge; n = w.n; first = w.first }

unfoldable pub with_hint : W → ℕ → W
with_hint w x =
    record { rw = w.rw; want_rw = w.want_rw; boot = w.boot; fat1 = w.fat1; rec = w.rec; pair = w.pair; st = w.st; session = w.session; locks = w.locks; last = w.last; now_ms = w.now_ms; staging = w.staging; stage_t = w.stage_t; hint = x; err = w.err; fw = w.fw; done = w.done; ver = w.ver; end_at = w.end_at; parks = w.parks; purged = w.purged; purge = w.purge; n = w.n; first = w.first }

unfoldable pub with_err : W → ℕ → W
with_err w x =
    record { rw = w.rw; want_rw = w.want_rw; boot = w.boot; fat1 = w.fat1; rec = w.rec; pair = w.pair; st = w.st; session = w.session; locks = w.locks; last = w.last; now_ms = w.now_ms; staging = w.staging; stage_t = w.stage_t; hint = w.hint; err = x; fw = w.fw; done = w.done; ver = w.ver; end_at = w.end_at; parks = w.parks; purged = w.purged; purge = w.purge; n = w.n; first = w.first }

unfoldable pub with_fw : W → ℕ → W
with_fw w x =
    record { rw = w.rw; want_rw = w.want_rw; boot = w.boot; fat1 = w.fat1; rec = w.rec; pair = w.pair; st = w.st; session = w.session; locks = w.locks; last = w.last; now_ms = w.now_ms; staging = w.staging; stage_t = w.stage_t; hint = w.hint; err = w.err; fw = x; done = w.done; ver = w.ver; end_at = w.end_at; parks = w.parks; purged = w.purged; purge = w.purge; n = w.n; first = w.first }

unfoldable pub with_done : W → Done → W
with_done w x =
    record { rw = w.rw; want_rw = w.want_rw; boot = w.boot; fat1 = w.fat1; rec = w.rec; pair = w.pair; st = w.st; session = w.session; locks = w.locks; last = w.last; now_ms = w.now_ms; staging = w.staging; stage_t = w.stage_t; hint = w.hint; err = w.err; fw = w.fw; done = x; ver = w.ver; end_at = w.end_at; parks = w.parks; purged = w.purged; purge = w.purge; n = w.n; first = w.first }

unfoldable pub with_ver : W → ℕ → W
with_ver w x =
    record { rw = w.rw; want_rw = w.want_rw; boot = w.boot; fat1 = w.fat1; rec = w.rec; pair = w.pair; st = w.st; session = w.session; locks = w.locks; last = w.last; now_ms = w.now_ms; staging = w.staging; stage_t = w.stage_t; hint = w.hint; err = w.err; fw = w.fw; done = w.done; ver = x; end_at = w.end_at; parks = w.parks; purged = w.purged; purge = w.purge; n = w.n; first = w.first }

unfoldable pub with_end_at : W → ℕ → W
with_end_at w x =
    record { rw = w.rw; want_rw = w.want_rw; boot = w.boot; fat1 = w.fat1; rec = w.rec; pair = w.pair; st = w.st; session = w.session; locks = w.locks; last = w.last; now_ms = w.now_ms; staging = w.staging; stage_t = w.stage_t; hint = w.hint; err = w.err; fw = w.fw; done = w.done; ver = w.ver; end_at = x; parks = w.parks; purged = w.purged; purge = w.purge; n = w.n; first = w.first }

unfoldable pub with_parks : W → ℕ → W
with_parks w x =
    record { rw = w.rw; want_rw = w.want_rw; boot = w.boot; fat1 = w.fat1; rec = w.rec; pair = w.pair; st = w.st; session = w.session; locks = w.locks; last = w.last; now_ms = w.now_ms; staging = w.staging; stage_t = w.stage_t; hint = w.hint; err = w.err; fw = w.fw; done = w.done; ver = w.ver; end_at = w.end_at; parks = x; purged = w.purged; purge = w.purge; n = w.n; first = w.first }

unfoldable pub with_purged : W → Bool → W
with_purged w x =
    record { rw = w.rw; want_rw = w.want_rw; boot = w.boot; fat1 = w.fat1; rec = w.rec; pair = w.pair; st = w.st; session = w.session; locks = w.locks; last = w.last; now_ms = w.now_ms; staging = w.staging; stage_t = w.stage_t; hint = w.hint; err = w.err; fw = w.fw; done = w.done; ver = w.ver; end_at = w.end_at; parks = w.parks; purged = x; purge = w.purge; n = w.n; first = w.first }

unfoldable pub with_purge : W → Bool → W
with_purge w x =
    record { rw = w.rw; want_rw = w.want_rw; boot = w.boot; fat1 = w.fat1; rec = w.rec; pair = w.pair; st = w.st; session = w.session; locks = w.locks; last = w.last; now_ms = w.now_ms; staging = w.staging; stage_t = w.stage_t; hint = w.hint; err = w.err; fw = w.fw; done = w.done; ver = w.ver; end_at = w.end_at; parks = w.parks; purged = w.purged; purge = x; n = w.n; first = w.first }

unfoldable pub with_n : W → Stats → W
with_n w x =
    record { rw = w.rw; want_rw = w.want_rw; boot = w.boot; fat1 = w.fat1; rec = w.rec; pair = w.pair; st = w.st; session = w.session; locks = w.locks; last = w.last; now_ms = w.now_ms; staging = w.staging; stage_t = w.stage_t; hint = w.hint; err = w.err; fw = w.fw; done = w.done; ver = w.ver; end_at = w.end_at; parks = w.parks; purged = w.purged; purge = w.purge; n = x; first = w.first }
