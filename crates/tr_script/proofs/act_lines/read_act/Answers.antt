use Rattle.std.proofs.Common.{refl}
use Rattle.tr_grammar.specs.Forms.{act_forms, is_second, Mark, Flush, Force, Take, Enclose, Free, Own, Disown, Read}
use Rattle.tr_script.specs.Reading.{act_line, command_forms}
use Rattle.std.specs.Prelude.{codes}
use Rattle.std.proofs.Math.Bool.{and-false}
use Rattle.tr_script.proofs.FormLemmas.{differs, reads_by, by_act}
use Rattle.tr_script.proofs.act_lines.read_act.Goals as goal

pub returns-in_default : goal.returns-in_default
returns-in_default c =
    let words = c.args.words.now in
    let act = words.act.now in
    let no_mark = differs act _ c.in_default.not-mark in
    let no_flush = differs act _ c.in_default.not-flush in
    let no_force = differs act _ c.in_default.not-force in
    let no_take = differs act _ c.in_default.not-take in
    let no_cage = differs act _ c.in_default.not-cage in
    let no_free = differs act _ c.in_default.not-free in
    let no_own = differs act _ c.in_default.not-own in
    let no_disown = differs act _ c.in_default.not-disown in
    let no_read = differs act _ c.in_default.not-read in
    reads_by c.args.reader.now act_forms command_forms (act_line words) c.read_command.result
    (rw (no_mark, no_flush, no_force, no_take, no_cage, no_free, no_own, no_disown, no_read) refl) c.read_command.ensures

pub returns-in-mark : goal.returns-in-mark
returns-in-mark c =
    let known = and-false (is_second c.args.reader.now.version) in
    by_act c.args.reader.now act_forms Mark c.args.words.now (codes "mark") c.read_mark.result c.in-mark.is (rw known refl) c.read_mark.ensures

pub returns-in-flush : goal.returns-in-flush
returns-in-flush c =
    let known = and-false (is_second c.args.reader.now.version) in
    by_act c.args.reader.now act_forms Flush c.args.words.now (codes "flush") c.read_flush.result c.in-flush.is (rw known refl) c.read_flush.ensures

pub returns-in-force : goal.returns-in-force
returns-in-force c =
    let known = and-false (is_second c.args.reader.now.version) in
    by_act c.args.reader.now act_forms Force c.args.words.now (codes "force") c.read_force.result c.in-force.is (rw known refl) c.read_force.ensures

pub returns-in-take : goal.returns-in-take
returns-in-take c =
    let known = and-false (is_second c.args.reader.now.version) in
    by_act c.args.reader.now act_forms Take c.args.words.now (codes "take") c.read_take.result c.in-take.is (rw known refl) c.read_take.ensures

pub returns-in-cage : goal.returns-in-cage
returns-in-cage c =
    let known = and-false (is_second c.args.reader.now.version) in
    by_act c.args.reader.now act_forms Enclose c.args.words.now (codes "cage") c.read_cage.result c.in-cage.is (rw known refl) c.read_cage.ensures

pub returns-in-free : goal.returns-in-free
returns-in-free c =
    let known = and-false (is_second c.args.reader.now.version) in
    by_act c.args.reader.now act_forms Free c.args.words.now (codes "free") c.read_free.result c.in-free.is (rw known refl) c.read_free.ensures

pub returns-in-own : goal.returns-in-own
returns-in-own c =
    let known = and-false (is_second c.args.reader.now.version) in
    by_act c.args.reader.now act_forms Own c.args.words.now (codes "own") c.read_own.result c.in-own.is (rw known refl) c.read_own.ensures

pub returns-in-disown : goal.returns-in-disown
returns-in-disown c =
    let known = and-false (is_second c.args.reader.now.version) in
    by_act c.args.reader.now act_forms Disown c.args.words.now (codes "disown") c.read_disown.result c.in-disown.is (rw known refl) c.read_disown.ensures

pub returns-in-read : goal.returns-in-read
returns-in-read c =
    let known = and-false (is_second c.args.reader.now.version) in
    by_act c.args.reader.now act_forms Read c.args.words.now (codes "read") c.read_read.result c.in-read.is (rw known refl) c.read_read.ensures
