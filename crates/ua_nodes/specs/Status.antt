-- The StatusCodes of items (OPC 10000-4, 7.39; OPC 10000-6, A.2).
use Rattle.ua_builtin.specs.declared.status_code.StatusCode.{StatusCode}

-- Good: the operation succeeded
abbrev pub good : StatusCode
good = record { code = 0 }

-- BadOutOfMemory: there is not enough memory to store the value
abbrev pub bad_out_of_memory : StatusCode
bad_out_of_memory = record { code = 0x8003_0000 }

-- BadNodeIdUnknown: there is no node of the NodeId
abbrev pub bad_node_id_unknown : StatusCode
bad_node_id_unknown = record { code = 0x8034_0000 }

-- BadAttributeIdInvalid: the node has no attribute of the id
abbrev pub bad_attribute_id_invalid : StatusCode
bad_attribute_id_invalid = record { code = 0x8035_0000 }

-- BadIndexRangeInvalid: the index range is not valid
abbrev pub bad_index_range_invalid : StatusCode
bad_index_range_invalid = record { code = 0x8036_0000 }

-- BadIndexRangeNoData: no element has an index in the range
abbrev pub bad_index_range_no_data : StatusCode
bad_index_range_no_data = record { code = 0x8037_0000 }

-- BadDataEncodingInvalid: the data encoding is not valid
abbrev pub bad_data_encoding_invalid : StatusCode
bad_data_encoding_invalid = record { code = 0x8038_0000 }

-- BadNotReadable: the value may not be read
abbrev pub bad_not_readable : StatusCode
bad_not_readable = record { code = 0x803A_0000 }

-- BadNotWritable: the attribute may not be written
abbrev pub bad_not_writable : StatusCode
bad_not_writable = record { code = 0x803B_0000 }

-- BadWriteNotSupported: the requested way of writing is not supported
abbrev pub bad_write_not_supported : StatusCode
bad_write_not_supported = record { code = 0x8073_0000 }

-- BadTypeMismatch: the value is not of the attribute's type
abbrev pub bad_type_mismatch : StatusCode
bad_type_mismatch = record { code = 0x8074_0000 }
