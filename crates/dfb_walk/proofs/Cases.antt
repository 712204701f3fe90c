-- Two logs by computation. Assumes nothing.
use lib.Dec.{lit<, lit≤}
use lib.ListN.{replicate}
use Rattle.lists.specs.Sums.{all_to, sum_to}
use Rattle.lists.specs.Tables.{concat_to}
use Rattle.codes.specs.Code.{band_legal}
use Rattle.registers.specs.Access.{registers_sound}
use Rattle.registers.specs.Store.{band_count, high_stored, low_stored, stored_at}
use Rattle.settings.specs.Settings.{setting_of, enabled_of}
use Rattle.words.specs.Words.{set_size}
use Rattle.board_log.specs.Format.{decode}
use Rattle.board_log.specs.Cursor.{read_at}
use Rattle.walk.specs.Walk.{walk_sound, next_at, next_set, scan}
use Rattle.walk.specs.Walked.{walk_steps, walk_from, walked}
use Rattle.dfb_walk.specs.Claims.{whole_log, WholeCase, cut_log, CutCase}
use Rattle.dfb_walk.proofs.Theorems.{items-by-calls}

pub whole-case : WholeCase
unfolding concat_to sum_to walked walk_from walk_steps next_at walk_sound registers_sound all_to read_at decode set_size next_set scan high_stored low_stored stored_at band_count setting_of enabled_of band_legal
whole-case = items-by-calls 99 whole_log (replicate 5 0) (lit< tt) (lit≤ tt) (lit< tt)

pub cut-case : CutCase
unfolding concat_to walked walk_from walk_steps next_at walk_sound registers_sound all_to read_at decode set_size next_set scan high_stored low_stored stored_at
cut-case = items-by-calls 10 cut_log (replicate 5 0) (lit< tt) (lit≤ tt) (lit< tt)
