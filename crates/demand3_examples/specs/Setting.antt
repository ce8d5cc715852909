-- The setting of the examples: a table of one file, and what lists of calls leave of it.
use Rattle.std.specs.Prelude.{ℕ, Bool, false, List, [], ◌∷◌}
use Rattle.loops.specs.Loops.{all, some, first, last, listed, count, fold}
use Rattle.loops.specs.Found.{find, found_below}
use Rattle.loops.specs.Rows.{rows_from}
use Rattle.loops.specs.Marks.{is_at, picked_by}
use Rattle.bits.specs.Bit.{bit, set_bit}
use Rattle.sector.specs.Bytes.{word, word32, same, zeros}
use Rattle.vdisk.specs.Drive.{place_of, dir_kind_of, clusters_of}
use Rattle.vdisk.specs.Ids.{handed, unmarked, dir_of, id_dir_of, same_name}
use Rattle.vdisk.specs.Owner.{up_to, owner_at, owner_of, rises}
use Rattle.file_table.specs.Table.{Table, table_of, whole_columns, all_unmarked, in_file, starts_apart, clusters_in, all_in, first_fits, clusters_fit}
use Rattle.file_table.specs.Table.{shares_name, same_place, shares_place, names_apart, places_apart, accepts}
use Rattle.slots.specs.Text.{lower_of}
use Rattle.slots.specs.Slots.{is_long, is_date, same_slot, date_at, dates_only, turn_at, update_name, is_ordinary, names_file, refers_to}
use Rattle.records.specs.Records.{is_rec, rec_idx, free_rec, free_recs}
use Rattle.names.specs.Names.{entry_of, char_place, char_of, ends, text_len, text_of, entries_read, joined, shown_char, unblanked, short_name, name_by, long_name}
use Rattle.housekeeping.specs.Housekeeping.{is_prefix, prefixes, some_prefix, is_housekeeping}
use Rattle.root_slots.specs.RootSlots.{slot_admitted}
use Rattle.state.specs.State.{initial}
use Rattle.state.specs.Setters.{with_rw, with_want_rw, with_boot, with_fat1, with_rec, with_pair, with_st, with_session, with_locks, with_last, with_staging, with_stage_t}
use Rattle.state.specs.Setters.{with_hint, with_err, with_done, with_ver, with_end_at, with_parks, with_purge, with_n, with_now_ms}
use Rattle.state.specs.Pairs.{is_pair, pair_idx, free_pairs}
use Rattle.state.specs.Staged.{is_slot, slot_of, free_slot}
use Rattle.medium.specs.Medium.{is_medium, has_block, block_of, search_end, next_free}
use Rattle.medium.specs.Reads.{sector_of, slot_names, moved_ref}
use Rattle.clusters.specs.Clusters.{is_nothing, is_live, host_own, host_cluster}
use Rattle.fat_sectors.specs.Values.{host_value}
use Rattle.fat_sectors.specs.Fat.{zeroed_at, zeroes_file, host_number, own_number, entry_number, needs_pair, fat_number, freed_own, freed_by, frees_row}
use Rattle.fat_sectors.specs.Fat.{freed_owner, apply_at, fat_state, free_id, fat_ids}
use Rattle.dir_sectors.specs.Dir.{file_at, row_of, turned_by, is_found, slot_passes, dir_number, turns_row, turn_id, dir_id, dir_ids, dir_changed}
use Rattle.root_sectors.specs.Root.{start_fits, slot_number, kept_at, needs_rec, root_number, place_of as place_for, put_at, keep_slot, root_state, root_changed}
use Rattle.staging.specs.Blocks.{is_parked, new_sector, new_block, source_block, filled_block, area_with, clear_bit, holding_st, written_st}
use Rattle.staging.specs.Staging.{start_staging, move_id, moved_ids, put_into, into_block, with_block, on_medium, in_slot, claimed, in_found, stage}
use Rattle.judge.specs.Classify.{unless_shown, fat, root, dir, cluster, at_place, classify}
use Rattle.write.specs.Write.{taken_state, error_of, refused_state, settled_state, whole_sectors, table_fits, write as written}
use Rattle.release.specs.Undecided.{is_file, is_named, is_update, is_decided, is_undecided}
use Rattle.release.specs.Release.{handed_on, release_id, released_ids, emptied, released_state, release_all as all_released, held_back, release as released, fits}
use Rattle.release.specs.Release.{release_all_call, release_call}
use Rattle.sessions.specs.Poll.{ticked, end_due, held_end, is_quiet, quietly, poll as polled, poll_call}
use Rattle.sessions.specs.Sessions.{set_read_only as read_only_set, mode_reset, bus_reset as reset_bus, bus_reset_call, report_gone, start}
use Rattle.demand3.specs.Step.{Session, Outcome, Medium, Sector, Call, set_read_only, reset_mode, step, sector_of as sector_written, id_of}
use Rattle.demand3.specs.History.{event, run, begun}

-- file 5 of LOGS, in slot 0, with cluster 100
abbrev pub table : Table
table = table_of (5 ∷ []) (0 ∷ []) (100 ∷ []) (32768 ∷ []) 7

-- the session after these calls, writing being on; what they compute with is unfolded with it
unfoldable pub after : List Call → Session
unfolding run event step initial read_only_set mode_reset report_gone start accepts all_unmarked unmarked clusters_fit rises starts_apart first_fits all_in
    clusters_in names_apart shares_name same_name places_apart shares_place same_place with_rw with_want_rw with_boot with_fat1 with_rec with_pair with_st with_session
    with_locks with_last with_staging with_stage_t with_hint with_err with_done with_ver with_end_at with_parks with_purge with_n with_now_ms all some first last listed
    count fold find found_below rows_from is_at picked_by bit set_bit word word32 same zeros place_of dir_kind_of clusters_of handed dir_of id_dir_of up_to owner_at
    owner_of whole_columns in_file lower_of is_long is_date same_slot date_at dates_only turn_at update_name is_ordinary names_file refers_to is_rec rec_idx free_rec
    free_recs entry_of char_place char_of ends text_len text_of entries_read joined shown_char unblanked short_name name_by long_name is_prefix prefixes some_prefix
    is_housekeeping slot_admitted is_pair pair_idx free_pairs is_slot slot_of free_slot is_medium has_block block_of search_end next_free sector_of slot_names moved_ref
    is_nothing is_live host_own host_cluster host_value zeroed_at zeroes_file host_number own_number entry_number needs_pair fat_number freed_own freed_by frees_row
    freed_owner apply_at fat_state free_id fat_ids file_at row_of turned_by is_found slot_passes dir_number turns_row turn_id dir_id dir_ids dir_changed start_fits
    slot_number kept_at needs_rec root_number place_for put_at keep_slot root_state root_changed is_parked new_sector new_block source_block filled_block area_with
    clear_bit holding_st written_st start_staging move_id moved_ids put_into into_block with_block on_medium in_slot claimed in_found stage unless_shown fat root dir
    cluster at_place classify taken_state error_of refused_state settled_state whole_sectors table_fits written is_file is_named is_update is_decided is_undecided
    handed_on release_id released_ids emptied released_state all_released held_back released fits release_all_call release_call ticked end_due held_end is_quiet
    quietly polled poll_call reset_bus bus_reset_call
after cs = (run table (begun table) (set_read_only false ∷ reset_mode ∷ cs)).session

abbrev pub is-handed : List Call → Bool
is-handed cs = handed (id_of (after cs) 0)

-- what comes of a call after these
abbrev pub outcome : List Call → Call → Outcome
outcome cs c = step table c (after cs)

-- the data area that a sector written after these calls leaves
abbrev pub area-left : List Call → Sector → Medium → List ℕ
area-left cs x m = (written (sector_written table (after cs) x false m) (after cs).w).area
