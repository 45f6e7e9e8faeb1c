use Rattle.std.proofs.Common.{Some, None, sym, ◌∙◌}
use Rattle.tr_mirror_tests.proofs.PlainLemmas.{reads_on, standing_is, fed_is, fault_is, begun_is, nothing_begun}
use Rattle.tr_mirror_tests.proofs.plain_readings.read_plainly.Goals as goal

pub records-preserved : goal.records-preserved
records-preserved c =
    let has = sym c.has_record.ensures ∙ c.records-test.true in
    rw (c.in_ok-rest.ensures.rest, c.in_ok-rest.ensures.standing)
    (reads_on c.args.stream.now c.records.standing c.records.rest.now c.records.invariant has)

-- ---- a fault is shown

pub returns-in-Some-clause-standing : goal.returns-in-Some-clause-standing
returns-in-Some-clause-standing c =
    let none = sym c.has_record.ensures ∙ c.records-test.false in
    standing_is c.args.stream.now c.records.standing c.records.rest.now c.records.invariant none

pub returns-in-Some-clause-begun : goal.returns-in-Some-clause-begun
returns-in-Some-clause-begun c =
    let none = sym c.has_record.ensures ∙ c.records-test.false in
    let shown = sym c.front_fault.ensures ∙ c.in-Some.is in
    c.new-in-Some.ensures.items
    ∙ nothing_begun c.args.stream.now c.records.standing c.records.rest.now c.records.invariant none c.in-Some.fault shown

pub returns-in-Some-clause-fed : goal.returns-in-Some-clause-fed
returns-in-Some-clause-fed c =
    let none = sym c.has_record.ensures ∙ c.records-test.false in
    fed_is c.args.stream.now c.records.standing c.records.rest.now c.records.invariant none

pub returns-in-Some-clause-fault : goal.returns-in-Some-clause-fault
returns-in-Some-clause-fault c =
    let none = sym c.has_record.ensures ∙ c.records-test.false in
    let shown = sym c.front_fault.ensures ∙ c.in-Some.is in
    fault_is c.args.stream.now c.records.standing c.records.rest.now c.records.invariant none (Some c.in-Some.fault) shown

-- ---- none is

pub returns-in_ok-from_slice-in-None-clause-standing : goal.returns-in_ok-from_slice-in-None-clause-standing
returns-in_ok-from_slice-in-None-clause-standing c =
    let none = sym c.has_record.ensures ∙ c.records-test.false in
    c.standing.view_is ∙ standing_is c.args.stream.now c.records.standing c.records.rest.now c.records.invariant none

pub returns-in_ok-from_slice-in-None-clause-begun : goal.returns-in_ok-from_slice-in-None-clause-begun
returns-in_ok-from_slice-in-None-clause-begun c =
    let none = sym c.has_record.ensures ∙ c.records-test.false in
    let shown = sym c.front_fault.ensures ∙ c.in-None.is in
    c.in_ok-from_slice-in-None.ensures.items
    ∙ begun_is c.args.stream.now c.records.standing c.records.rest.now c.records.invariant none shown

pub returns-in_ok-from_slice-in-None-clause-fed : goal.returns-in_ok-from_slice-in-None-clause-fed
returns-in_ok-from_slice-in-None-clause-fed c =
    let none = sym c.has_record.ensures ∙ c.records-test.false in
    fed_is c.args.stream.now c.records.standing c.records.rest.now c.records.invariant none

pub returns-in_ok-from_slice-in-None-clause-fault : goal.returns-in_ok-from_slice-in-None-clause-fault
returns-in_ok-from_slice-in-None-clause-fault c =
    let none = sym c.has_record.ensures ∙ c.records-test.false in
    let shown = sym c.front_fault.ensures ∙ c.in-None.is in
    fault_is c.args.stream.now c.records.standing c.records.rest.now c.records.invariant none None shown
